-- The number of each kind: what a caller names it by, and the byte of its heads. Assumes nothing.
use Rattle.std.specs.Prelude.{◌≡◌, refl, true, ℕ, List, codes}
use Rattle.numbers.specs.Nodes.{is_within}
use Rattle.changes.specs.declared.kind.Kind.{Kind}
use Rattle.changes.specs.declared.kind.Kind.TheVariants.{File, Directory}

abbrev pub kind_byte : Kind → ℕ
kind_byte File = 1
kind_byte Directory = 2

abbrev pub kind_word : Kind → List ℕ
kind_word File = codes "file"
kind_word Directory = codes "directory"

-- "Kind: 1 file, 2 directory"
pub kind_within : (kind : Kind) → is_within 1 (kind_byte kind) 2 ≡ true
kind_within File = refl
kind_within Directory = refl
