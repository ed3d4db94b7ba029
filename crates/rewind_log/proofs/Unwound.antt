-- What going back to a place comes to.
use Rattle.std.proofs.Common.{◌≡◌, ◌≢◌, ◌⊎◌, ◌&&◌, ◌∙◌, ◌≤◌, ap, refl, inl, inr, ℕ, List, [], ◌∷◌, length, take, Bool, nat_eq, int_eq, Result, Ok, Err}
use Rattle.std.specs.Prelude.{IfOk, IfErr}
use Rattle.std.specs.Bool.{Decides}
use Rattle.std.specs.Cmp.Lexicographic.{bytes_decides}
use Rattle.std.proofs.lemmas.Bool.{cases_Bool, cases_eq, both_ways, and_from, eq-eqb}
use Rattle.std.proofs.lemmas.Bool.Decides.{Decides-int_eq}
use Rattle.amoebot_state.specs.declared.verdict.Entry.{Entry}
use Rattle.amoebot_state.specs.declared.verdict.Verdict.{Verdict}
use Rattle.amoebot_state.specs.Configs.{Config, IsValid}
use Rattle.amoebot_state.specs.Zones.{Shown}
use Rattle.amoebot_state.specs.Steps.{Run}
use Rattle.amoebot_state.proofs.Values.{same_extent}
use Rattle.serial_model.specs.declared.replays.Differs.{Differs}
use Rattle.rewind_log.specs.Rewinds.{IsBack, IsLastNoStep}
use Rattle.rewind_log.specs.Unwinding.{HasSameFrame, IsUnwound}
use Rattle.rewind_log.specs.Unwinding.IsUnwound.{other_frame, no_way_back, at_place}
use Rattle.rewind_log.specs.Laws.{UnwoundIsUnique, UnwoundIsSome, RunsKeepFrame, UnwindingUndoesRuns}
use Rattle.rewind_log.proofs.Backs.{back_is_unique, last_no_step_is_unique, back_has_no_last_no_step, back_or_last_no_step, leads_back}

-- where area or walls, or the numbers of amoebots differ, the frame is not the same
pub other_grounds : (start last : Config) → ((last.area ≡ start.area) × (last.walls ≡ start.walls) → ⊥) → ¬ HasSameFrame start last
other_grounds start last ne same = ne (same.area, same.walls)

pub other_sizes : (start last : Config) → length last.bots ≢ length start.bots → ¬ HasSameFrame start last
other_sizes start last ne same = ne same.size

module _ (f : Shown → Verdict) (start last : Config) (entries : List Entry) (place : ℕ) (same : HasSameFrame start last) where
  pub unwound : (r : Result Config Differs) → IfOk r (λ world. IsBack f last entries place world)
      → IfOk r (λ world. IsUnwound f start last entries place (Ok world))
  unwound (Ok world) back = at_place world same back
  unwound (Err e) back = tt

  pub unwound_err : (r : Result Config Differs) → IfErr r (λ (e : Differs). IsLastNoStep f last entries place e.place)
      → IfErr r (λ (e : Differs). IsUnwound f start last entries place (Err e.place))
  unwound_err (Ok world) none = tt
  unwound_err (Err e) none = no_way_back e.place same none

-- ---- it comes to one thing

pub unwound_is_unique : UnwoundIsUnique
unwound_is_unique f start last entries place one two found (other_frame apart) (other_frame parted) = refl
unwound_is_unique f start last entries place one two found (other_frame apart) (no_way_back k same none) = absurd (apart same)
unwound_is_unique f start last entries place one two found (other_frame apart) (at_place world same back) = absurd (apart same)
unwound_is_unique f start last entries place one two found (no_way_back k same none) (other_frame apart) = absurd (apart same)
unwound_is_unique f start last entries place one two found (no_way_back k same none) (no_way_back j equal nor) =
    ap Err (last_no_step_is_unique f last entries place k j found none nor)
unwound_is_unique f start last entries place one two found (no_way_back k same none) (at_place world equal back) =
    absurd (back_has_no_last_no_step f last entries place k world found back none)
unwound_is_unique f start last entries place one two found (at_place world same back) (other_frame apart) = absurd (apart same)
unwound_is_unique f start last entries place one two found (at_place world same back) (no_way_back k equal none) =
    absurd (back_has_no_last_no_step f last entries place k world found back none)
unwound_is_unique f start last entries place one two found (at_place world same back) (at_place other equal again) =
    ap Ok (back_is_unique f last entries place world other found back again)

areas_decide : (c d : Config) → Decides
    (int_eq c.area.x0 d.area.x0 && (int_eq c.area.y0 d.area.y0 && (nat_eq c.area.w d.area.w && nat_eq c.area.h d.area.h)))
    (c.area ≡ d.area)
areas_decide c d = (
  same_extent c.area d.area,
  λ e. and_from _ _ ((Decides-int_eq c.area.x0 d.area.x0).1 (λ i. (e i).x0))
      (and_from _ _ ((Decides-int_eq c.area.y0 d.area.y0).1 (λ i. (e i).y0))
      (and_from _ _ (eq-eqb c.area.w d.area.w (λ i. (e i).w)) (eq-eqb c.area.h d.area.h (λ i. (e i).h)))),
)

decided : {P : Type 0} (b : Bool) → Decides b P → P ⊎ (P → ⊥)
decided b decides = elim (cases_Bool b) [
  | inl t ↦ inl (decides.0 t)
  | inr f ↦ inr (λ p. both_ways _ f (decides.1 p))
]

-- a frame is the same or is another
same_frame_or_not : (start last : Config) → HasSameFrame start last ⊎ ¬ HasSameFrame start last
same_frame_or_not start last = elim (decided _ (areas_decide last start)) [
  | inr apart ↦ inr (λ same. apart same.area)
  | inl areas ↦ elim (decided _ (bytes_decides last.walls start.walls)) [
    | inr apart ↦ inr (λ same. apart same.walls)
    | inl walls ↦ elim (cases_eq (length last.bots) (length start.bots)) [
      | inr apart ↦ inr (λ same. apart same.size)
      | inl size ↦ inl (record { area = areas; walls = walls; size = size })
    ]
  ]
]

pub unwound_is_some : UnwoundIsSome
unwound_is_some f start last entries place found valid within = elim (same_frame_or_not start last) [
  | inr apart ↦ (Err (length entries), other_frame apart)
  | inl same ↦ elim (back_or_last_no_step f last entries place found valid within) [
    | inl back ↦ (Ok back.0, at_place back.0 same back.1)
    | inr none ↦ (Err none.0, no_way_back none.0 same none.1)
  ]
]

-- ---- runs keep the frame

pub runs_keep_frame : RunsKeepFrame
runs_keep_frame f first last [] run = record {
  area = ap (λ (c : Config). c.area) run;
  walls = ap (λ (c : Config). c.walls) run;
  size = ap (λ (c : Config). length c.bots) run;
}
runs_keep_frame f first last (e ∷ entries) run =
    let step = run.1.patched.same in
    let rest = runs_keep_frame f run.0 last entries run.2 in
    record {
      area = rest.area ∙ ap (λ (c : Config). c.area) step.rest;
      walls = rest.walls ∙ ap (λ (c : Config). c.walls) step.rest;
      size = rest.size ∙ step.size;
    }

-- to go back to a place of a run comes to the world there, with the premises one by one
pub unwinding_undoes_runs : (f : Shown → Verdict) (first last world : Config) (entries : List Entry) (place : ℕ) → IsValid first → Run f first entries last → place ≤ length entries → Run f first (take place entries) world → IsUnwound f first last entries place (Ok world)
unwinding_undoes_runs f first last world entries place valid run within reached =
    at_place world (runs_keep_frame f first last entries run) (leads_back f first last world entries place valid run within reached)

pub runs_are_undone : UnwindingUndoesRuns
runs_are_undone f first last world entries place lead = unwinding_undoes_runs f first last world entries place lead.valid lead.run lead.within lead.there
