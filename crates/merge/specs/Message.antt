-- Where the heads and entries of a message stand. Assumes nothing.
use Rattle.std.specs.Prelude.{◌≡◌, refl, List, ℕ, ◌+◌, ◌-◌, ◌*◌}
use Rattle.std.proofs.Common.{ap, ◌∙◌}
use Rattle.records.specs.declared.entry.Entry.{Entry}
use Rattle.records.specs.Entries.{entry_at}
use Rattle.slots.specs.declared.listed.Listed.{Listed}
use Rattle.document.specs.Tables.{slots_from}
use Rattle.document.specs.Messages.{message_of}
use Rattle.document.specs.Receive.{listed_in, joined_in}
use Rattle.document.specs.ReadingMessages.{head_in}
pub use Rattle.steps.specs.Message.{heads_in, entries_in, entry_in, listed_at, Sized}
use Rattle.merge.specs.Turns.{slots_map}

pub first_is : (l : List ℕ) → (message_of l).first ≡ head_in l 0
unfolding message_of
first_is l = refl

pub above_are : (l : List ℕ) → (message_of l).above ≡ slots_from (head_in l) 1 (heads_in l - 1)
unfolding message_of
above_are l = refl

pub joined_are : (l : List ℕ) → joined_in (message_of l) ≡ slots_from (listed_at l) 0 (entries_in l)
unfolding message_of
joined_are l = slots_map (listed_in (head_in l 0).id) (entry_in l) 0 (entries_in l)

-- the entry that is read, as one of the pushed directory's
pub same_listed : (l : List ℕ) (i : ℕ) {base d : ℕ} {e : Entry} → base ≡ 16 + 40 * heads_in l → d ≡ (head_in l 0).id →
    e ≡ entry_at l (base + 32 * i) →
    ◌≡◌ {A = Listed} (record { entry = e; directory = d }) (listed_at l i)
same_listed l i {base} {d} {e} p q r =
    let at : e ≡ entry_in l i = r ∙ ap (λ (b : ℕ). entry_at l (b + 32 * i)) p in
    λ k. record { entry = at k; directory = q k }
