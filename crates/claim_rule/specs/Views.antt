-- What a seat knows, in short words.
use Rattle.std.specs.Prelude.{ℕ, List, [], ◌∷◌, pos}
use Rattle.std.specs.declared.option.Option.{Option}
use Rattle.std.specs.declared.option.Option.TheVariants.{Some, None}
use Rattle.atomic_table.specs.Table as table
use Rattle.amoebot_state.specs.declared.verdict.Verdict.{Verdict}
use Rattle.amoebot_state.specs.declared.verdict.Verdict.TheVariants as decision
use Rattle.amoebot_state.specs.Configs.{Config}
use Rattle.amoebot_state.specs.Zones.{Shown}
use Rattle.claim_core.specs.declared.state.Caller.{Caller}
use Rattle.claim_core.specs.declared.state.Phase.TheVariants as phase
use Rattle.claim_core.specs.Turns.{CallerLists}
use Rattle.claim_core.specs.Machine.{Setup, caller}
use Rattle.claim_rule.specs.declared.views.Slot.{Slot}
use Rattle.claim_rule.specs.declared.views.Note.{Note}
use Rattle.claim_rule.specs.declared.views.Record.{Record}
use Rattle.claim_rule.specs.declared.views.Terms.{Terms}
use Rattle.claim_rule.specs.declared.views.View.{View}

-- the record of a caller that has committed nothing
abbrev pub record_of : ℕ → Caller → Record
record_of c k = record { number = c; caller = k; committed = []; taken = None; won = []; note = None }

-- the record where the caller has come on
abbrev pub record_with : Record → Caller → Record
record_with r k = record r { caller = k }

-- the record where its note is another
abbrev pub with_note : Record → Option Note → Record
with_note r o = record r { note = o }

-- the record without what it says of nodes' words
abbrev pub bare_record : Record → Record
bare_record r = record r { won = []; note = None }

-- the first record; that of nobody, where there is none
abbrev pub first_record : List Record → Record
first_record [] = record_of 0 (caller 0 phase.Ended [] [])
first_record (r ∷ rs) = r

-- the words, the values at home, and the views of the table
abbrev pub Content : Type 0 → Type 0
Content D = table.State Slot (View D)

-- what a seat knows, and what it has out of slots
abbrev pub Seated : Type 0 → Type 0
Seated D = table.Me Slot (View D)

-- a configuration with no node
abbrev pub nowhere : Config
nowhere =
    let a : Rattle.tri_lattice.specs.Extent.Extent = record { x0 = pos 0; y0 = pos 0; w = 0; h = 0 } in
    record { area = a; walls = []; maxes = []; bots = [] }

module _ {D : Type 0} where
  abbrev pub field_terms : D → Config → CallerLists → Terms D
  field_terms d w l = record { decider = d; world = w; lists = l }

  -- a view of these terms
  abbrev pub view_of : Terms D → List Record → View D
  view_of z rs = record { terms = Some z; records = rs }

  -- the view with other records
  abbrev pub like : View D → List Record → View D
  like v rs = record { terms = v.terms; records = rs }

  -- the record of a view that has one
  abbrev pub own : View D → Record
  own v = first_record v.records

  -- the view as contracts see it: without what it knows of nodes' words
  abbrev pub seen : View D → View D
  seen v = like v (bare_record (own v) ∷ [])

  -- the view where its caller has come on
  abbrev pub goes_on : View D → Caller → View D
  goes_on v k = like v (record_with (own v) k ∷ [])

  module _ (verdict : D → Shown → Verdict) where
    -- what the machine's run is about
    abbrev pub setup_of_terms : Terms D → Setup
    setup_of_terms z = record { verdict = verdict z.decider; world = z.world; lists = z.lists }

    -- what a run of a decider is about, from a world by lists
    abbrev pub setup_for : D → Config → CallerLists → Setup
    setup_for d w l = setup_of_terms (field_terms d w l)

    -- the same for a view, which a spent one has not
    abbrev pub setup_at : Option (Terms D) → Setup
    setup_at None =
        record { verdict = λ _. decision.Idle; world = nowhere; lists = record { turns = 0; ids = [] } }
    setup_at (Some z) = setup_of_terms z
