-- `vectors::rfc_3394` is safe and ends: a part of an array has the length that was asked for.
use native.Mathlib.Omega.{arith}
use lib.ListN.{length-take}
use Rattle.vectors.proofs.rfc_3394.Goals as goal

pub slice_bounds-wrap-end-4 : goal.slice_bounds-wrap-end-4
slice_bounds-wrap-end-4 g c = simp length-take (omega arith)

pub slice_bounds-wrap-end-6 : goal.slice_bounds-wrap-end-6
slice_bounds-wrap-end-6 g c = simp length-take (omega arith)

pub slice_bounds-wrap-end-8 : goal.slice_bounds-wrap-end-8
slice_bounds-wrap-end-8 g c = simp length-take (omega arith)
