-- `report::list_into` meets its contract: as many as the listing has for this list are copied, and the rest stays.
use mathlib.Core.List.{[]}
use native.Mathlib.Omega.{arith}
use lib.ListN.{length-take}
use Rattle.report.proofs.list_into.Goals as goal

pub slice_bounds-copy_from_slice-end : goal.slice_bounds-copy_from_slice-end
slice_bounds-copy_from_slice-end c = (c.listing_for-listing.ensures []).fits

pub slice_bounds-copy_from_slice-end-2 : goal.slice_bounds-copy_from_slice-end-2
slice_bounds-copy_from_slice-end-2 c =
    let l = c.listing_for-listing in
    omega (arith, (l.ensures []).fits, length-take l.result.count c.args.records.now)

pub shared_ref_as_front-copy_from_slice : goal.shared_ref_as_front-copy_from_slice
shared_ref_as_front-copy_from_slice c = (c.listing_for-listing.ensures []).small

pub copy_from_slice-requires : goal.copy_from_slice-requires
copy_from_slice-requires c =
    let l = c.listing_for-listing in
    let L = l.ensures [] in
    omega (arith, L.fits, L.small, length-take l.result.count c.args.records.now, length-take l.result.count l.result.records)
