use Rattle.store.proofs.Laws.{places_fit, bytes_touch_one}
use Rattle.store.proofs.store.store_laws.Goals as goal

pub returns : goal.returns
returns g c = record { places = places_fit _; bytes = bytes_touch_one _ }
