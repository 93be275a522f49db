-- `steps::join::Entries::join` meets its contract. Assumes nothing.
use Rattle.std.specs.Prelude.{ℕ, Option}
use Rattle.std.proofs.Common.{arith, ap, sym, ◌∙◌}
use Rattle.document.specs.Tables.{entry_in}
use Rattle.table.specs.Slots.{found_slot}
use Rattle.document.specs.Sound.{same_key}
use Rattle.document.specs.Reading.{few_entries}
use Rattle.steps.specs.Joining.{joined_at, joins_so}
use Rattle.steps.proofs.join.Entries.join.Goals as goal

pub returns-in_default : goal.returns-in_default
returns-in_default c =
    joins_so _ _ _ c.args.self.now.used_are
    (ap (λ (f : Option ℕ). joined_at f (entry_in c.args.self.now.t.now) c.args.x) (sym c.in_default.is ∙ c.entry-found.ensures))

pub meet-requires : goal.meet-requires
meet-requires c =
    let p = found_slot (same_key c.args.x) (entry_in c.args.self.now.t.now) 0 c.args.self.now.used c.in-Some.s (sym c.entry-found.ensures ∙ c.in-Some.is) in
    omega (arith, p.1, c.args.self.now.used_are, few_entries c.args.self.now.t.now)

pub returns : goal.returns
returns c =
    joins_so _ _ _ c.args.self.now.used_are
    (c.meet.ensures ∙ ap (λ (f : Option ℕ). joined_at f (entry_in c.args.self.now.t.now) c.args.x) (sym c.in-Some.is ∙ c.entry-found.ensures))
