-- `service::list::write_shown` meets its contract. The loop's invariant: what i slots show is written, and n is how
-- many they show. Assumes nothing.
use Rattle.std.proofs.Common.{◌≡◌, ap, sym, ◌∙◌, ◌+◌, ◌*◌, arith, length}
use Rattle.std.specs.Prelude.{refl, ℕ, List}
use Rattle.codec.specs.Bytes.{splice}
use Rattle.records.specs.Entries.{entry_bytes}
use Rattle.document.specs.Tables.{rows}
use Rattle.document.specs.Rows.{rows_end}
use Rattle.service.specs.Listing.{shown_at, shown_in, shown_none, length_more, length_fewer, written_more}
use Rattle.service.proofs.list.write_shown.Goals as goal

pub loop-i-init : goal.loop-i-init
loop-i-init c =
    let a = c.args in
    let none = shown_none a.t.now a.directory in (
      sym (ap length none),
      refl,
      rows_end entry_bytes a.out.now 0 none,
    )

pub write_slot-n-requires : goal.write_slot-n-requires
write_slot-n-requires c =
    let a = c.args in
    let l = c.loop-i in
    let more = length_more a.t.now a.directory l.i in
    let fewer = length_fewer a.t.now a.directory (l.i + 1) a.k (omega (arith, c.loop-i-test.true)) in
    (omega (arith, c.loop-i-test.true), omega (arith, l.invariant.0, l.invariant.1))

pub loop-i-preserved : goal.loop-i-preserved
loop-i-preserved c =
    let a = c.args in
    let l = c.loop-i in
    let fewer = length_fewer a.t.now a.directory (l.i + 1) a.k (omega (arith, c.loop-i-test.true)) in
    let here = rows entry_bytes (shown_at a.t.now a.directory l.i) in (
      c.write_slot-n.ensures.0 ∙ ap (λ (m : ℕ). m + length (shown_at a.t.now a.directory l.i)) l.invariant.0
          ∙ sym (length_more a.t.now a.directory l.i),
      omega (arith, l.invariant.1),
      c.write_slot-n.ensures.1 ∙ ap (λ (m : ℕ). splice l.out (32 * m) here) l.invariant.0
          ∙ ap (λ (o : List ℕ). splice o (32 * length (shown_in a.t.now a.directory l.i)) here) l.invariant.2
          ∙ written_more a.out.now a.t.now a.directory l.i (omega arith),
    )

pub returns : goal.returns
returns c =
    let l = c.loop-i in
    let a = c.args in
    let all : l.i ≡ a.k = omega (arith, c.loop-i-test.false, l.auto.i-end) in (
      l.invariant.0 ∙ ap (λ (i : ℕ). length (shown_in a.t.now a.directory i)) all,
      l.invariant.2
          ∙ ap (λ (i : ℕ). splice a.out.now 0 (rows entry_bytes (shown_in a.t.now a.directory i))) all,
    )
