use Rattle.std.proofs.Common.{refl}
use Rattle.capture.proofs.intake.Intake.new.Goals as goal

pub returns : goal.returns
returns c = refl
