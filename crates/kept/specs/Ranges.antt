-- The entries that a head in its range sets are in theirs. Assumes nothing.
use Rattle.std.specs.Prelude.{◌≡◌, refl, true, ℕ}
use Rattle.codec.specs.Lists.{and_both}
use Rattle.numbers.specs.Laws.{made_id}
use Rattle.records.specs.declared.head.Head.{Head}
use Rattle.records.specs.Entries.{entry_fits}
use Rattle.records.specs.Ordinary.{Ordinary}
use Rattle.document.specs.Tables.{listed_fits}
use Rattle.document.specs.Steps.{place_entry, strike}

pub place_fits : (n : ℕ) (h : Head) → Ordinary n h → listed_fits n (place_entry h) ≡ true
unfolding entry_fits
place_fits n h o =
    and_both (and_both o.live (and_both (made_id n h.id o.made) (and_both o.stamp o.name))) o.directory

pub strike_fits : (n : ℕ) (h old : Head) → Ordinary n h → Ordinary n old → listed_fits n (strike h old) ≡ true
unfolding entry_fits
strike_fits n h old o p =
    and_both (and_both refl (and_both (made_id n h.id o.made) (and_both o.stamp p.name))) p.directory
