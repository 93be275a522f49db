-- `merge::merge` meets its contract: one step after the other. Assumes nothing.
use Rattle.std.proofs.Common.{arith}
use Rattle.std.specs.Prelude.{refl}
use Rattle.steps.specs.Standing.{never, err_not_ok}
use Rattle.merge.specs.Merging.{merge_owns, merge_sized, heads_full, heads_works, heads_held, entries_full, entries_works, entries_base, entries_shown, entries_clock, merge_made, merge_grown}
use Rattle.merge.proofs.merge.Goals as goal

pub of-message-requires : goal.of-message-requires
of-message-requires c = merge_sized c.requires c.fits-t

pub take_heads-requires : goal.take_heads-requires
take_heads-requires c = merge_owns c.requires c.fits-t

pub returns-in_err-take_heads : goal.returns-in_err-take_heads
returns-in_err-take_heads c =
    rw (err_not_ok _ c.from_residual.ensures.0) (
      heads_full c.requires c.fits-t (rw c.of-message.ensures at c.in_err-take_heads.ensures) refl,
      λ e. never e,
    )

pub join_all-requires : goal.join_all-requires
join_all-requires c =
    let a = rw c.of-message.ensures at c.in_ok-take_heads.ensures in
    rw c.of-message.ensures (
      heads_works c.requires c.fits-t a refl,
      omega (arith, c.told-old),
      heads_held c.requires c.fits-t a refl,
    )

pub returns-in_err-join_all : goal.returns-in_err-join_all
returns-in_err-join_all c =
    let a = rw c.of-message.ensures at c.in_ok-take_heads.ensures in
    let b = rw c.of-message.ensures at c.in_err-join_all.ensures in
    rw (err_not_ok _ c.from_residual-in_err-join_all.ensures.0) (entries_full c.requires c.fits-t a refl b refl, λ e. never e)

pub mend_all-requires : goal.mend_all-requires
mend_all-requires c =
    let a = rw c.of-message.ensures at c.in_ok-take_heads.ensures in
    let b = rw c.of-message.ensures at c.in_ok-join_all.ensures in (
      entries_works c.requires c.fits-t a refl b refl,
      entries_base c.requires c.fits-t a refl b refl,
      entries_shown c.requires c.fits-t a refl b refl,
      entries_clock c.requires c.fits-t a refl b refl,
      omega (arith, c.requires.early),
    )

pub returns : goal.returns
returns c =
    let a = rw c.of-message.ensures at c.in_ok-take_heads.ensures in
    let b = rw c.of-message.ensures at c.in_ok-join_all.ensures in (
      merge_made c.requires c.fits-t a refl b refl c.mend_all.ensures,
      merge_grown c.requires c.fits-t a refl b refl c.mend_all.ensures,
    )
