-- What a claim of a whole zone leaves, and its release.
use Rattle.std.specs.Prelude.{◌≡◌, ℕ, ◌+◌, ◌≤◌, List, [], ◌∷◌, ◌++◌}
use Rattle.std.specs.declared.option.Option.TheVariants.{Some, None}
use Rattle.amoebot_state.specs.declared.verdict.Verdict.{Verdict}
use Rattle.amoebot_state.specs.Pairs.{Pairs, cell_of}
use Rattle.amoebot_state.specs.Zones.{Shown}
use Rattle.claim_core.specs.declared.marks.Mark.{Mark}
use Rattle.claim_core.specs.declared.state.Caller.{Caller}
use Rattle.claim_core.specs.Limits.{most_turns}
use Rattle.claim_core.specs.Machine.{Setup, found, next_of, phase_of_verdict, opening_phase, busy_mark, caller}
use Rattle.claim_rule.specs.Plays.{IsOthers, about, bot_in}
use Rattle.claim_rule.specs.Tokens.{Token, RefusedOf, refused_of, number_in, doing, goes}

-- the cells were claimed in zone order: each was the next one by the values of those before it;
-- the last one stands first
abbrev pub AreInOrder : Setup → ℕ → Pairs → Type 0
AreInOrder g b [] = Unit {0}
AreInOrder g b (p ∷ held) = (next_of g b held ≡ Some (cell_of p)) × AreInOrder g b held

-- a caller that holds nothing, after this turn
abbrev pub at_next : Setup → ℕ → List Mark → Caller
at_next g t marks = caller (t + 1) (opening_phase g (t + 1)) [] marks

module _ {D : Type 0} (verdict : D → Shown → Verdict) where
  -- the zone was claimed in its order and is held, the whole of it and nothing more,
  -- with the values that were read and the decision on them
  pub record IsClaimed (old new : Token D) : Type 0 where
    pub held : Pairs
    pub in_order : AreInOrder (about verdict old.view) (bot_in verdict old.view) held
    pub whole : next_of (about verdict old.view) (bot_in verdict old.view) held ≡ None
    pub now : new
        ≡ goes old (record (doing old) {
          phase = phase_of_verdict ((about verdict old.view).verdict
              (found (about verdict old.view) (bot_in verdict old.view) held));
          held = held;
        })

  -- cells were won in zone order, and at the next one another caller's tag was found;
  -- all of them are free again, and the turn has the mark that says so, and no other step was made
  pub record WasRefused (old new : Token D) (by : RefusedOf) : Type 0 where
    pub won : Pairs
    pub in_order : AreInOrder (about verdict old.view) (bot_in verdict old.view) won
    pub cell : next_of (about verdict old.view) (bot_in verdict old.view) won ≡ Some by.cell
    pub tag : ℕ
    pub other : IsOthers (about verdict old.view) (number_in old) tag
    pub told : by ≡ refused_of (number_in old) (doing old).turn by.cell tag by.place
    pub few : by.place ≤ most_turns
    pub now : new
        ≡ goes old
        (at_next (about verdict old.view) (doing old).turn
        ((doing old).marks ++ busy_mark by.cell tag by.place ∷ []))

  -- a caller that frees all that it holds is at its next turn, where it holds anything
  abbrev pub freed_by : Token D → Pairs → Token D
  freed_by t [] = t
  freed_by t (p ∷ held) = goes t (at_next (about verdict t.view) (doing t).turn (doing t).marks)

  abbrev pub freed_all : Token D → Token D
  freed_all t = freed_by t (doing t).held
