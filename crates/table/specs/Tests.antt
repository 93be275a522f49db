-- A conjunction as the code decides it: its first test answered r, and the others x. What the proofs of `table` cite.
-- Assumes nothing.
use Rattle.std.specs.Prelude.{◌≡◌, Bool, true, false, ◌&&◌}
use Rattle.std.proofs.Common.{sym, ◌∙◌}
use Rattle.codec.specs.Lists.{and_stop, and_go}

pub and_ended : {a r : Bool} (b : Bool) → r ≡ a → r ≡ false → r ≡ (a && b)
and_ended {a} b e h = h ∙ and_stop a b (sym e ∙ h)

pub and_went : {a r x b : Bool} → r ≡ a → r ≡ true → x ≡ b → x ≡ (a && b)
and_went {a} {r} {x} {b} e h k = and_go a b (sym e ∙ h) k
