-- The new clock. What the contract of `numbers::Clock::tick` cites. Definitions only. Assumes nothing.
use Rattle.std.specs.Prelude.{ℕ, ◌+◌, max}
use Rattle.numbers.specs.Ids.{stamp_of}
use Rattle.numbers.specs.declared.clock.Clock.{Clock}
use Rattle.numbers.specs.declared.clock.Ticked.{Ticked}

-- "New clock: new clock is the larger of now and the highest seen plus one"
abbrev pub new_clock : ℕ → ℕ → ℕ
new_clock now highest = max now (highest + 1)

-- the clock at a reading, and the stamp that the node gives with it
abbrev pub ticked_at : ℕ → ℕ → Ticked
ticked_at reading node = record { clock = record { highest = reading }; stamp = stamp_of reading node }

-- "it becomes the highest seen"
abbrev pub ticked : Clock → ℕ → ℕ → Ticked
ticked c now node = ticked_at (new_clock now c.highest) node
