use Rattle.std.proofs.Common.{ap, sym, refl, subst}
use Rattle.std.specs.Prelude.{is_some}
use Rattle.amoebot_state.specs.Configs.{Config, bot_at}
use Rattle.amoebot_state.specs.Zones.{shown}
use Rattle.amoebot_state.specs.Known.{IsFront}
use Rattle.amoebot_state.proofs.ExampleLemmas.{train, read_train, shown_train_0}
use Rattle.tests_model.proofs.worlds.train_is_read.Goals as goal

they_are_a_front : IsFront (read_train 12) (shown train 0).cells
they_are_a_front = subst (IsFront (read_train 12)) (sym (ap (λ s. s.cells) shown_train_0)) refl

pub both_read-requires : goal.both_read-requires
both_read-requires c =
    record {
      config = c.args.world.now;
      valid = c.keeps.ensures.valid;
      area = sym c.area.ensures;
      there = ap (λ (w : Config). is_some (bot_at w 0)) c.requires;
      front = subst (λ w. IsFront (read_train 12) (shown w 0).cells) (sym c.requires) they_are_a_front;
    }
