-- Back over a patch: the cells with their values exchanged.
-- Values before are this project's profile.
use Rattle.std.specs.Prelude.{map}
use Rattle.amoebot_state.specs.Pairs.{CellChange, Triples, plain_patch}
use Rattle.amoebot_state.specs.Configs.{Config, IsValid}
use Rattle.amoebot_state.specs.Patches.{IsPatched, HasOldValues}

-- the cell, whose value after is the one that it had before
abbrev pub reversed_triple : CellChange → CellChange
reversed_triple t = (t.0, t.2, t.1)

-- the patch the other way round: each value before exchanged with the value after
abbrev pub reversed_patch : Triples → Triples
reversed_patch ts = map reversed_triple ts

-- where the values before are those of a valid configuration,
-- the patch the other way round leads back to it
abbrev pub ReversedLeadsBack : Type 0
ReversedLeadsBack =
    (old new : Config) (ts : Triples)
    → IsValid old
    → HasOldValues old ts
    → IsPatched old (plain_patch ts) new
    → IsPatched new (plain_patch (reversed_patch ts)) old
