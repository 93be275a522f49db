-- Where the heads and entries of a message stand. Assumes nothing.
use Rattle.std.specs.Prelude.{◌≡◌, List, ℕ, ◌≤◌, length}
use Rattle.codec.specs.Bytes.{chunk}
use Rattle.records.specs.declared.entry.Entry.{Entry}
use Rattle.records.specs.Entries.{entry_at}
use Rattle.messages.specs.PushHeaders.{push_of}
use Rattle.slots.specs.declared.listed.Listed.{Listed}
use Rattle.document.specs.Messages.{entry_spot}
use Rattle.document.specs.Receive.{listed_in}
use Rattle.document.specs.ReadingMessages.{head_in}

abbrev pub heads_in : List ℕ → ℕ
heads_in l = (push_of (chunk l 0 16)).heads

abbrev pub entries_in : List ℕ → ℕ
entries_in l = (push_of (chunk l 0 16)).entries

abbrev pub entry_in : List ℕ → ℕ → Entry
entry_in l i = entry_at l (entry_spot (heads_in l) i)

-- the entry as one of the pushed directory's
abbrev pub listed_at : List ℕ → ℕ → Listed
listed_at l i = listed_in (head_in l 0).id (entry_in l i)

-- they are all there, and one head at least
pub record Sized (l : List ℕ) : Type 0 where
  pub size : length l ≡ entry_spot (heads_in l) (entries_in l)
  pub one : 1 ≤ heads_in l
