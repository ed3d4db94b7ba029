use Rattle.model_ops.proofs.ActsDecide.{acts_keep_decider_laws, guarded_deciders_stay_connected}
use Rattle.model_ops.proofs.laws.acts_decide.Goals as goal

pub returns : goal.returns
returns c = record { laws = acts_keep_decider_laws; connected = guarded_deciders_stay_connected }
