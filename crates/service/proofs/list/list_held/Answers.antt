-- `service::list::list_held` meets its contract: a dead file, a file, a buffer too small, a dead directory, done.
-- Assumes nothing.
use Rattle.std.proofs.Common.{◌≡◌, ap, sym, subst, ◌∙◌, arith, length, true≢false}
use Rattle.std.specs.Prelude.{List, ℕ, Ok}
use Rattle.codec.specs.Bytes.{splice}
use Rattle.records.specs.declared.entry.Entry.{Entry}
use Rattle.records.specs.Entries.{entry_bytes}
use Rattle.document.specs.Tables.{rows, table_of}
use Rattle.document.specs.Calls.{listing, list_in}
use Rattle.answers.specs.declared.refusal.Refusal.TheVariants.{TooShort, Dead, WrongKind}
use Rattle.service.specs.Listing.{shown_of, list_small, list_dead_file, list_file, list_dead, list_done}
use Rattle.answers.specs.Answers.{Answered}
use Rattle.answers.specs.Outputs.{refused_out, done_out}
use Rattle.service.proofs.list.list_held.Goals as goal
use Rattle.service.proofs.list.list_held.Goals.{else-not-is_directory-via-then-not-is_directory+else-not-is_live, else-not-is_directory-via-else-not-is_directory}

pub returns-then-not-is_live : goal.returns-then-not-is_live
returns-then-not-is_live c =
    let a = c.args in
    refused_out a.out.now Dead
    (list_dead_file a.h.id (length a.out.now) (table_of a.t.now) a.h
    c.requires
    (sym c.is_directory.ensures ∙ c.if-not-is_directory.true) (sym c.is_live.ensures ∙ c.if-not-is_live.true))

pub returns-then-not-is_directory-2 : goal.returns-then-not-is_directory-2
returns-then-not-is_directory-2 c =
    let a = c.args in
    let file = sym c.is_directory-2.ensures ∙ c.if-not-is_directory-2.true in
    elim c.else-not-is_directory.branch [
      | else-not-is_directory-via-then-not-is_directory+else-not-is_live w ↦
          refused_out a.out.now WrongKind
          (list_file a.h.id (length a.out.now) (table_of a.t.now) a.h c.requires file
          (sym w.is_live.ensures ∙ w.if-not-is_live.false))
      | else-not-is_directory-via-else-not-is_directory w ↦
          absurd (true≢false (sym w.if-not-is_directory.false ∙ c.is_directory.ensures ∙ file))
    ]

pub returns-then-out-n : goal.returns-then-out-n
returns-then-out-n c =
    let counted : let a = c.args in
    length (listing a.h.id (table_of a.t.now).entries) ≡ c.shown_in-n.result =
    let a = c.args in
    ap length (shown_of a.t.now a.h.id _ c.entries_used-k.ensures.0) ∙ sym c.shown_in-n.ensures.0 in
    let a = c.args in
    refused_out a.out.now TooShort
    (list_small a.h.id (length a.out.now) (table_of a.t.now) a.h
    c.requires
    (sym c.is_directory-2.ensures ∙ c.if-not-is_directory-2.false) (omega (arith, counted, c.if-out-n.true)))

pub returns-then-not-is_live-2 : goal.returns-then-not-is_live-2
returns-then-not-is_live-2 c =
    let counted : let a = c.args in
    length (listing a.h.id (table_of a.t.now).entries) ≡ c.shown_in-n.result =
    let a = c.args in
    ap length (shown_of a.t.now a.h.id _ c.entries_used-k.ensures.0) ∙ sym c.shown_in-n.ensures.0 in
    let a = c.args in
    refused_out a.out.now Dead
    (list_dead a.h.id (length a.out.now) (table_of a.t.now) a.h
    c.requires
    (sym c.is_directory-2.ensures ∙ c.if-not-is_directory-2.false)
    (omega (arith, counted, c.if-out-n.false)) (sym c.is_live-2.ensures ∙ c.if-not-is_live-2.true))

pub returns : goal.returns
returns c =
    let counted : let a = c.args in
    length (listing a.h.id (table_of a.t.now).entries) ≡ c.shown_in-n.result =
    let a = c.args in
    ap length (shown_of a.t.now a.h.id _ c.entries_used-k.ensures.0) ∙ sym c.shown_in-n.ensures.0 in
    let a = c.args in
    let shown = shown_of a.t.now a.h.id _ c.entries_used-k.ensures.0 in
    let done =
    done_out a.out.now _ _ _
    (list_done a.h.id (length a.out.now) (table_of a.t.now) a.h c.requires
    (sym c.is_directory-2.ensures ∙ c.if-not-is_directory-2.false)
    (omega (arith, counted, c.if-out-n.false))
    (sym c.is_live-2.ensures ∙ c.if-not-is_live-2.false)) in (
      subst (λ (v : ℕ). Answered (list_in a.h.id (length a.out.now) (table_of a.t.now)) (Ok v)) counted done.0,
      c.write_shown.ensures.1
          ∙ ap (λ (es : List Entry). splice a.out.now 0 (rows entry_bytes es)) (sym shown) ∙ done.1,
    )
