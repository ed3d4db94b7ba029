use Rattle.std.proofs.lemmas.Slice.Eq.{slice_eq-Decides}
use Rattle.amoebot_state.proofs.Values.{fields_decide, chirs_decide}
use Rattle.amoebot_state.proofs.world.same_bots.Goals as goal

pub returns : goal.returns
returns c = slice_eq-Decides (λ a b. fields_decide a b _ (chirs_decide a.chir b.chir)) c.args.bots.now c.args.others.now c.eq.result c.eq.ensures
