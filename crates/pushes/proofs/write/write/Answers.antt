-- `pushes::write::write` meets its contract: the header, the first head, those above it, the entries, one behind the
-- other. Assumes nothing.
use Rattle.std.specs.Prelude.{refl}
use Rattle.std.proofs.Common.{◌≡◌, ◌∙◌, ◌+◌, ◌*◌, arith}
use Rattle.codec.specs.Laws.{after}
use Rattle.pushes.specs.Pushing.{heads_told, room_told, message_written}
use Rattle.pushes.proofs.write.write.Goals as goal

pub write-requires : goal.write-requires
write-requires c =
    omega (arith, room_told _ _ _ _ c.requires)

pub write-requires-2 : goal.write-requires-2
write-requires-2 c =
    omega (arith, room_told _ _ _ _ c.requires)

pub write_above-requires : goal.write_above-requires
write_above-requires c =
    omega (arith, room_told _ _ _ _ c.requires)

pub write_entries-requires : goal.write_entries-requires
write_entries-requires c =
    omega (arith, room_told _ _ _ _ c.requires, heads_told _ _ _ _ c.requires)

pub returns : goal.returns
returns c =
    let o : c.entry_at-o.result ≡ 16 + 40 * c.args.header.heads = omega (arith, c.entry_at-o.ensures, c.from.ensures) in
    after _ _ (rw o at c.write_entries.ensures)
    (after _ _ c.write_above.ensures (after _ _ c.write-2.ensures c.write.ensures))
    ∙ message_written _ _ _ _ c.requires c.args.out.now refl
