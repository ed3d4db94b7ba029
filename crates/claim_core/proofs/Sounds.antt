-- Each step keeps the state sound, and so does any list of steps.
use Rattle.std.proofs.Common.{◌≡◌, ℕ, ◌≤◌, Bool, true, false, List, [], ◌∷◌, map, Option, Some, None, ap, sym, refl, subst, ◌∙◌, arith, nat_eq}
use Rattle.std.specs.Prelude.{slice_get, if◌then◌else◌}
use Rattle.std.proofs.lemmas.Bool.{eqb-true, eq-eqb, both_ways}
use Rattle.std.proofs.lemmas.List.{length-map}
use Rattle.std.proofs.lemmas.List.Elements.{All-nil}
use Rattle.std.proofs.lemmas.Option.{none-some, slice_get_within}
use Rattle.amoebot_state.specs.declared.cell.CellName.{CellName}
use Rattle.amoebot_state.specs.declared.cell.Cell.{Cell}
use Rattle.amoebot_state.specs.Pairs.{Pairs}
use Rattle.claim_core.specs.declared.state.Phase.{Phase}
use Rattle.claim_core.specs.declared.state.Phase.TheVariants.{Claim, Refusing, Looking, Taking, Committing, Releasing, Ended}
use Rattle.claim_core.specs.declared.state.Caller.{Caller}
use Rattle.claim_core.specs.Good.{place_after}
use Rattle.claim_core.specs.Cells.{number, at, values_of}
use Rattle.claim_core.specs.Machine.{Setup, State, bot, next_of, wins, claims, finds, tries, takes, releases, by_phase, acts, next, fresh, opening, after}
use Rattle.claim_core.specs.Soundness.{IsSetup, CallerOk, Sound}
use Rattle.claim_core.proofs.Places.{map-get}
use Rattle.claim_core.proofs.Frames.{run_framed}
use Rattle.claim_core.proofs.Claims.{refuses, wins-sound}
use Rattle.claim_core.proofs.ReleaseLemmas.{opens_ok, refusing, looking, releases_sound}
use Rattle.claim_core.proofs.Commits.{takes_sound, commits_sound}

module _ (g : Setup) (ok : IsSetup g) where
  module _ (old : State) (s : Sound g old) (c : ℕ) (k : Caller) (there : slice_get old.callers c ≡ Some k) where
    claimed : (n : CellName) (t : ℕ) → k.phase ≡ Claim → next_of g (bot g c k.turn) k.held ≡ Some n → at old.tags (number g.world.area n) ≡ Some t → Sound g (claims g c old k n t)
    claimed n t p next found = by (nat_eq t 0) refl
      where
        read : t ≡ 0 → (o : Option Cell) → at old.values (number g.world.area n) ≡ o → Sound g (wins g c old k n o)
        read free None e = s
        read free (Some x) e = wins-sound g ok old s c k there n x p next (found ∙ ap Some free) e

        by : (b : Bool) → nat_eq t 0 ≡ b → Sound g (if b then wins g c old k n (at old.values (number g.world.area n)) else Rattle.claim_core.specs.Machine.with_caller g old c (record k { phase = Refusing n t }))
        by true e = read (eqb-true t 0 e) (at old.values (number g.world.area n)) refl
        by false e = refuses g ok old s c k there n t p next found (λ z. both_ways _ e (eq-eqb t 0 z))

    tried : (o : Option CellName) → k.phase ≡ Claim → next_of g (bot g c k.turn) k.held ≡ o → Sound g (tries g c old k o)
    tried None p next = s
    tried (Some n) p next = found (at old.tags (number g.world.area n)) refl
      where
        found : (o : Option ℕ) → at old.tags (number g.world.area n) ≡ o → Sound g (finds g c old k n o)
        found None e = s
        found (Some t) e = claimed n t p next e

    by_kind : (p : Phase) → k.phase ≡ p → Sound g (by_phase g c old k p)
    by_kind Claim p = tried (next_of g (bot g c k.turn) k.held) p refl
    by_kind (Refusing n t) p = refusing g ok old s c k there n t p
    by_kind (Looking l) p = looking g ok old s c k there l p
    by_kind (Taking change) p = taken old.holder refl
      where
        taken : (o : Option ℕ) → old.holder ≡ o → Sound g (takes g c old k change o)
        taken None e = takes_sound g ok old s c k there change p e
        taken (Some d) e = s
    by_kind (Committing change) p = commits_sound g ok old s c k there change p
    by_kind Releasing p = freed k.held refl
      where
        freed : (held : Pairs) → k.held ≡ held → Sound g (releases g c old k held)
        freed [] e = s
        freed (q ∷ held) e = releases_sound g ok old s c k there q held p e
    by_kind Ended p = s

  pub one_step : (old : State) → Sound g old → (c : ℕ) → Sound g (next g c old)
  one_step old s c = by (slice_get old.callers c) refl
    where
      by : (o : Option Caller) → slice_get old.callers c ≡ o → Sound g (acts g c old o)
      by None e = s
      by (Some k) e = by_kind old s c k e k.phase refl

  pub starts : Sound g (opening g)
  starts = record {
    valid = ok.valid;
    last = g.world;
    run = refl;
    values = refl;
    tagged = length-map (values_of g.world) (λ (_ : Cell). 0);
    order = record { listed = All-nil (Rattle.claim_core.specs.Good.IsListed g.lists); rising = λ i j d below inside. absurd (omega arith) };
    committed = λ place e has. absurd (none-some e has);
    callers = length-map g.lists.ids (λ (_ : List ℕ). fresh g);
    each = λ c k there.
        let from = map-get (λ (_ : List ℕ). fresh g) g.lists.ids c k there in
        subst (CallerOk g (opening g) g.world c) from.2 (opens_ok g ok (opening g) g.world (run_framed g.verdict g.world g.world [] ok.valid refl) c 0 [] (omega arith) (slice_get_within g.lists.ids c from.0 from.1) refl
        (λ t m has. absurd (none-some m has)) (λ i j d below inside. absurd (omega arith)) (All-nil (λ m. place_after m ≤ 0)));
    owned = λ n t has some. absurd (some (sym (free (number g.world.area n) t has)));
    holder = λ c has. absurd (none-some c has);
  }
    where
      free : (o : Option ℕ) (t : ℕ) → at (map (λ (_ : Cell). 0) (values_of g.world)) o ≡ Some t → 0 ≡ t
      free None t e = absurd (none-some t e)
      free (Some k) t e = (map-get (λ (_ : Cell). 0) (values_of g.world) k t e).2

  pub always : (steps : List ℕ) → Sound g (after g steps)
  always [] = starts
  always (c ∷ steps) = one_step (after g steps) (always steps) c
