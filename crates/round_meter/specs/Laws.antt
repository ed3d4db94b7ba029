-- What follows from the definitions alone.
use Rattle.std.specs.Prelude.{◌≡◌, ◌<◌, ℕ, List, length, IsSome}
use Rattle.amoebot_state.specs.declared.verdict.Entry.{Entry}
use Rattle.amoebot_state.specs.declared.verdict.Verdict.{Verdict}
use Rattle.amoebot_state.specs.Configs.{Config, IsValid, bot_at}
use Rattle.amoebot_state.specs.Zones.{Shown}
use Rattle.amoebot_state.specs.Steps.{Run}
use Rattle.round_meter.specs.Rounds.{EndsRound, IsRounded}
use Rattle.round_meter.specs.Meters.{Metered, IsMetered, GoesOnIn, GoesOnWith, TellTheSame, waiting_of}

-- the round from a start ends at one place at most
abbrev pub RoundIsUnique : Type 0
RoundIsUnique =
    (f : Shown → Verdict) (first : Config) (entries : List Entry) (start one two : ℕ)
    → EndsRound f first entries start one
    → EndsRound f first entries start two
    → one ≡ two

-- so at most one number counts the rounds of a run, and one those that wait
abbrev pub RoundsAreUnique : Type 0
RoundsAreUnique =
    (f : Shown → Verdict) (first : Config) (entries : List Entry) (rounds waiting others still : ℕ)
    → IsRounded f first entries rounds waiting
    → IsRounded f first entries others still
    → (rounds ≡ others) × (waiting ≡ still)

-- each run from a valid configuration without gaps has these numbers
abbrev pub EachRunIsRounded : Type 0
EachRunIsRounded =
    (f : Shown → Verdict) (first last : Config) (entries : List Entry)
    → IsValid first
    → ((b : ℕ) → b < length first.bots → IsSome (bot_at first b))
    → Run f first entries last
    → (rounds : ℕ) × (waiting : ℕ) × IsRounded f first entries rounds waiting

-- a meter that stands for a run tells them
abbrev pub MeterTellsRounds : Type 0
MeterTellsRounds =
    (f : Shown → Verdict) (first : Config) (entries : List Entry) (m : Metered)
    → IsMetered f first entries m
    → IsRounded f first entries m.rounds (waiting_of m)

-- meters that stand for one run tell the same
abbrev pub MetersTellTheSame : Type 0
MetersTellTheSame =
    (f : Shown → Verdict) (first : Config) (entries : List Entry) (one two : Metered)
    → IsMetered f first entries one
    → IsMetered f first entries two
    → TellTheSame one two

-- so a meter goes on with an entry in one way
abbrev pub GoesOnWithIsUnique : Type 0
GoesOnWithIsUnique =
    (f : Shown → Verdict) (e : Entry) (old new other : Metered)
    → GoesOnWith f e old new
    → GoesOnWith f e old other
    → TellTheSame new other

-- and with what is told in a form in one way too, since it tells one entry
abbrev pub GoesOnInIsUnique : {E : Type 0} → (Entry → E) → Type 0
GoesOnInIsUnique {E} form =
    (f : Shown → Verdict) (told : E) (old new other : Metered)
    (one : GoesOnIn form f told old new) (two : GoesOnIn form f told old other)
    → (one.source ≡ two.source) × TellTheSame new other
