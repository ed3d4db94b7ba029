-- A caller's turns, one more at a time.
use Rattle.std.proofs.Common.{◌≡◌, ℕ, zero, suc, ◌+◌, ◌≤◌, List, [], ◌∷◌, ◌++◌, map, length, Some, vec_capacity, ap, sym, ◌∙◌, subst, length-append}
use Rattle.std.specs.Prelude.{slice_get}
use Rattle.std.proofs.lemmas.List.{map-append}
use Rattle.std.proofs.lemmas.Option.{none-some, same_Some}
use Rattle.amoebot_state.specs.declared.verdict.Verdict.{Verdict}
use Rattle.amoebot_state.specs.Zones.{Shown}
use Rattle.claim_core.specs.declared.state.Caller.{Caller}
use Rattle.claim_rule.specs.Views.{setup_of_terms, setup_at}
use Rattle.claim_rule.specs.Plays.{about}
use Rattle.claim_rule.specs.Tokens.{FieldOf, Token, IsOf, number_in, doing}
use Rattle.node_claims.specs.Claims.{at_next}
use Rattle.node_claims.specs.declared.turn.Turn.{Turn}
use Rattle.node_claims.specs.Answers.{HasAnswered, caller_of, turn_of, mark_of}
use Rattle.caller_workers.specs.declared.workers.WorkerState.{WorkerState}
use Rattle.caller_workers.specs.Turns.{marks_in}
use Rattle.caller_workers.specs.WorkerStates.{HasMade, caller_between_turns, token_there, turns_at}

-- an element of a list with one more at its end
pushed_at : {A : Type 0} (P : ℕ → A → Type 0) (xs : List A) (x : A) → ((k : ℕ) (y : A) → slice_get xs k ≡ Some y → P k y) → P (length xs) x → (k : ℕ) (y : A) → slice_get (xs ++ x ∷ []) k ≡ Some y → P k y
pushed_at P [] x each last zero y e = subst (P 0) (same_Some x y e) last
pushed_at P [] x each last (suc k) y e = absurd (none-some y e)
pushed_at P (z ∷ xs) x each last zero y e = each zero y e
pushed_at P (z ∷ xs) x each last (suc k) y e = pushed_at (λ n. P (suc n)) xs x (λ n w h. each (suc n) w h) last k y e

module _ {D S A W : Type 0} (verdict : D → Shown → Verdict) (token : S → Token D) (told : A → Turn W) (f : FieldOf D) (c t : ℕ) (old : WorkerState S A) (before : HasMade verdict token told f c t old) (seat : S) (there : old.seat ≡ Some seat) where
  same : before.seat ≡ token seat
  same = same_Some before.seat (token seat) (sym before.there ∙ ap (token_there token) there)

  pub seat_of : IsOf f (token seat)
  seat_of = subst (IsOf f) same before.of

  number : number_in (token seat) ≡ c
  number = ap number_in (sym same) ∙ before.number

  stands : doing (token seat) ≡ caller_between_turns (setup_of_terms verdict f.terms) t (marks_in (turns_at told old))
  stands = ap doing (sym same) ∙ before.doing

  run_is : about verdict (token seat).view ≡ setup_of_terms verdict f.terms
  run_is = ap (setup_at verdict) seat_of.terms

  -- the seat is to make this turn next
  pub is_next : t ≡ (doing (token seat)).turn
  is_next = sym (ap (λ (k : Caller). k.turn) stands)

  -- the turn is made
  pub one_made : (new : S) (answer : A) (now : WorkerState S A) → HasAnswered verdict (token seat) (token new) (told answer) → IsOf f (token new) → now.seat ≡ Some new → now.turns.items ≡ old.turns.items ++ answer ∷ [] → f.terms.lists.turns ≤ vec_capacity now.turns → HasMade verdict token told f c (t + 1) now
  one_made new answer now answered of put pushed room =
      let more : turns_at told now ≡ turns_at told old ++ told answer ∷ [] = ap (map told) pushed ∙ map-append told old.turns.items (answer ∷ []) in
      record {
        seat = token new;
        there = ap (token_there token) put;
        of = of;
        number = answered.number ∙ number;
        doing =
            answered.gains ∙ (λ i. at_next (run_is i) (sym is_next i) ((stands i).marks ++ mark_of (told answer) ∷ []))
            ∙ ap (caller_between_turns (setup_of_terms verdict f.terms) (t + 1)) (sym (ap marks_in more ∙ map-append mark_of (turns_at told old) (told answer ∷ [])));
        count = ap length more ∙ length-append (turns_at told old) (told answer ∷ []) ∙ ap (λ n. n + 1) before.count;
        room = room;
        each = λ k a e.
            pushed_at (λ n b. (caller_of b ≡ c) × (turn_of b ≡ n)) (turns_at told old) (told answer) before.each
            (answered.caller ∙ number, answered.turn ∙ sym is_next ∙ sym before.count) k a (ap (λ xs. slice_get xs k) (sym more) ∙ e);
      }
