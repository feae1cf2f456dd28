-- The number of each axis, when an axis is refused, and by which number.
-- Assumes nothing.
use Rattle.std.specs.Prelude.{ℕ, cond, Some, None, Option, nat_lt}
use Rattle.layers.specs.declared.axis.Axis.{Axis}
use Rattle.layers.specs.declared.axis.Axis.TheVariants.{A0, A1, A2, A3, A4, A5, A6, A7}
use Rattle.layers.specs.declared.axis.AxisRefusal.{AxisRefusal}
use Rattle.layers.specs.declared.axis.AxisRefusal.TheVariants.{Over7}

abbrev pub axis_number : Axis → ℕ
axis_number A0 = 0
axis_number A1 = 1
axis_number A2 = 2
axis_number A3 = 3
axis_number A4 = 4
axis_number A5 = 5
axis_number A6 = 6
axis_number A7 = 7

abbrev pub refusal_number : AxisRefusal → ℕ
refusal_number Over7 = 5

-- an axis over 7 is refused
abbrev pub axis_refusal : ℕ → Option AxisRefusal
axis_refusal n = cond (nat_lt 7 n) (Some Over7) None
