use Prim.Native.Nat.{◌<◌}
use native.Mathlib.Omega.{arith}
use Rattle.setting.proofs.Steps.{measure_fits}
use Rattle.setting.specs.Setting.{length_of}
use Rattle.setting.proofs.measure.Goals as goal

pub overflow_mul-result : goal.overflow_mul-result
overflow_mul-result c =
    let small : c.args.head.count < 256 = omega arith in
    record { fits = measure_fits c.args.head c.size.result small c.size.ensures }

pub returns : goal.returns
unfolding length_of
returns c = rw c.size.ensures
