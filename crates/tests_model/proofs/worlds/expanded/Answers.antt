use Rattle.std.proofs.Common.{◌≡◌, sym, subst}
use Rattle.amoebot_state.specs.Pairs.{Triples, plain_patch}
use Rattle.amoebot_state.specs.Configs.{Config, IsValid}
use Rattle.amoebot_state.specs.Patches.{IsPatched}
use Rattle.amoebot_state.proofs.ExampleLemmas.{alone, alone_out, alone_patched}
use Rattle.tests_model.proofs.worlds.expanded.Goals as goal

pub apply-requires : goal.apply-requires
apply-requires c =
    let P : Config → Type 0 = λ w. IsPatched w (plain_patch c.expansion.result) alone_out in
    let Q : Triples → Type 0 = λ ts. IsPatched alone (plain_patch ts) alone_out in
    (alone_out, subst P (sym c.in_ok-world.ensures) (subst Q (sym c.expansion.ensures) (alone_patched (subst IsValid c.requires c.keeps.ensures.valid))))
