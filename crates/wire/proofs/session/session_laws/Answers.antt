use Rattle.wire.proofs.Sessions.{places_run_on, true_messages, true_parts}
use Rattle.wire.proofs.session.session_laws.Goals as goal

pub returns : goal.returns
returns c = record { places = places_run_on; messages = true_messages; parts = true_parts }
