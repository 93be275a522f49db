-- The bytes of a table, lent on as a table: what is left in it is left in them. Assumes nothing.
use Rattle.std.specs.Prelude.{List, ℕ, Option}
use Rattle.std.specs.Borrow.{LendsIf, MutBor, Fml, Array, u8}

abbrev pub LendsTable : MutBor (List ℕ) → Option (MutBor (List ℕ)) → Fml
LendsTable s r = LendsIf (Array u8 0) (Array u8 0) s r (λ t. t) s.now
