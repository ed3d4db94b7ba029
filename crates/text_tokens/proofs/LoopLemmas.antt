-- A loop over elements: what was found, and what is still read.
use Rattle.std.proofs.Common.{◌≡◌, ◌<◌, ◌-◌, arith, ℕ, zero, suc, Bool, true, false, cond, List, [], ◌∷◌, ◌++◌, length, Option, Some, None, Ok, Err, refl, sym, ap, ◌∙◌, append_assoc}
use Rattle.std.proofs.lemmas.List.{append-nil}
use Rattle.text_tokens.specs.declared.refusal.Refusal.{Refusal}
use Rattle.text_tokens.specs.declared.refusal.ReadRefusal.{ReadRefusal}
use Rattle.text_tokens.specs.declared.refusal.ReadRefusal.TheVariants.{Refused, NoMemory}
use Rattle.text_tokens.specs.Text.{Lexeme}
use Rattle.text_tokens.specs.Cursor.{Cursor}
use Rattle.text_tokens.specs.Reading.{Answer, Reader, first, answer_and_then, ◌>>=◌, pure, starts_at, either, repeated, less}
use Rattle.text_tokens.specs.Grammar.{Lang}
use Rattle.text_tokens.specs.Lawful.{AreElements}
use Rattle.text_tokens.specs.Steps.{SameSource, another}
use Rattle.text_tokens.proofs.StepsLemmas.{Reached, Failed, stays, stays_on, err_of}
use Rattle.text_tokens.proofs.RepeatedLemmas.{steps_repeated, fewer}
use Rattle.text_tokens.proofs.Exactness.{rest_in}

-- more, behind what was found
abbrev pub prepend : {A : Type 0} → List A → Answer (List A) → Answer (List A)
prepend found (Ok r) = Ok (found ++ r.0, r.1)
prepend found (Err r) = Err r

-- from the start the reader answers what was found, and then what the other answers here
pub record StillReads {A : Type 0} (p : Reader (List A)) (start : Cursor) (found : List A) (q : Reader (List A)) (here : Cursor) : Type 0 where
  pub reads : p start.last start.ahead ≡ prepend found (q here.last here.ahead)
  pub stays : SameSource start here

nothing_before : {A : Type 0} (r : Answer (List A)) → r ≡ prepend [] r
nothing_before (Ok r) = refl
nothing_before (Err r) = refl

pub one_before : {A : Type 0} (a : A) (r : Answer (List A)) → answer_and_then r (λ rest us. Ok (a ∷ rest, us)) ≡ prepend (a ∷ []) r
one_before a (Ok r) = refl
one_before a (Err r) = refl

pub one_more_before : {A : Type 0} (found : List A) (a : A) (r : Answer (List A)) → prepend found (answer_and_then r (λ rest us. Ok (a ∷ rest, us))) ≡ prepend (found ++ a ∷ []) r
one_more_before {A} found a (Ok r) = ap (λ (all : List A). Ok (all, r.1)) (sym (append_assoc found (a ∷ []) r.0))
one_more_before found a (Err r) = refl

-- before the first
pub loop_begins : {A : Type 0} (p : Reader (List A)) (start : Cursor) (found : List A) → found ≡ [] → StillReads p start found p start
loop_begins p start found e = record { reads = nothing_before (p start.last start.ahead) ∙ ap (λ (fs : List _). prepend fs (p start.last start.ahead)) (sym e); stays = stays start }

-- behind the first of those that separators join
pub loop_chains : {A : Type 0} (p : Reader A) (q : Reader (List A)) (start here : Cursor) (a : A) (found : List A) → found ≡ a ∷ [] → Reached p start a here → StillReads (p >>= λ a. q >>= λ rest. pure (a ∷ rest)) start found q here
loop_chains {A} p q start here a found e r = record {
  reads = ap (λ (x : Answer A). answer_and_then x (λ a us. answer_and_then (q start.last us) (λ rest vs. Ok (a ∷ rest, vs)))) r.0 ∙ one_before a (q start.last here.ahead) ∙ ap (λ (last : Refusal). prepend (a ∷ []) (q last here.ahead)) (sym r.1.last)
      ∙ ap (λ (fs : List A). prepend fs (q here.last here.ahead)) (sym e);
  stays = r.1;
}

abbrev option_in : {A : Type 0} → Answer (Option A) → Option A
option_in (Ok r) = r.0
option_in (Err r) = None

some_of : {A : Type 0} (r : Answer A) (a : A) (us : List Lexeme) → answer_and_then r (λ a us. Ok (Some a, us)) ≡ Ok (Some a, us) → r ≡ Ok (a, us)
some_of {A} (Ok r) a us e =
    let o : Some r.0 ≡ Some a = ap option_in e in
    let x : r.0 ≡ a = cc in
    let y : r.1 ≡ us = ap rest_in e in
    ap (λ (z : A). Ok (z, r.1)) x ∙ ap (λ (z : List Lexeme). Ok (a, z)) y
some_of (Err r) a us e = absurd cc

never_none : {A : Type 0} (r : Answer A) (us : List Lexeme) → answer_and_then r (λ a us. Ok (Some a, us)) ≡ Ok (None, us) → ⊥
never_none {A} (Ok r) us e = let o : Some r.0 ≡ None = ap option_in e in absurd cc
never_none (Err r) us e = absurd cc

module _ {A S : Type 0} (E : S → Lang A) (element : S → Reader A) (step : S → A → S) (starts between stop : Lexeme → Bool) (e : AreElements E element starts between stop) (p : Reader (List A)) (start : Cursor) (found : List A) (s : S) (here : Cursor) (still : StillReads p start found (repeated starts element step s) here) where
  abbrev Tried : Bool → Answer (Option A)
  Tried b = cond {A = Reader (Option A)} b (element s >>= λ a. pure (Some a)) (pure None) here.last here.ahead

  tried : another starts (element s) here.last here.ahead ≡ Tried (starts_at starts (first here.ahead))
  unfolding either
  tried = refl

  abbrev Goes : Bool → Answer (List A)
  Goes b = cond b (answer_and_then (element s here.last here.ahead) (λ a us. answer_and_then (repeated starts element step (step s a) here.last us) (λ rest vs. Ok (a ∷ rest, vs)))) (Ok ([], here.ahead))

  goes : repeated starts element step s here.last here.ahead ≡ Goes (starts_at starts (first here.ahead))
  goes = steps_repeated E element step starts between stop e s here.last here.ahead

  more_by : (a : A) (us : List Lexeme) (b : Bool) → Tried b ≡ Ok (Some a, us) → (prepend found (Goes b) ≡ prepend (found ++ a ∷ []) (repeated starts element step (step s a) here.last us)) × (element s here.last here.ahead ≡ Ok (a, us))
  more_by a us true h = let f = some_of (element s here.last here.ahead) a us h in (rw f (one_more_before found a (repeated starts element step (step s a) here.last us)), f)
  more_by a us false h = let o : None ≡ Some a = ap option_in h in absurd cc

  module _ (a : A) (mid : Cursor) (next : Reached (another starts (element s)) here (Some a) mid) where
    -- one more was found
    pub loop_goes_on : (more : List A) → more ≡ found ++ a ∷ [] → StillReads p start more (repeated starts element step (step s a)) mid
    loop_goes_on more same = record {
      reads = still.reads ∙ ap (prepend found) goes ∙ (more_by a mid.ahead (starts_at starts (first here.ahead)) (sym tried ∙ next.0)).0
          ∙ ap (λ (last : Refusal). prepend (found ++ a ∷ []) (repeated starts element step (step s a) last mid.ahead)) (sym next.1.last)
          ∙ ap (λ (fs : List A). prepend fs (repeated starts element step (step s a) mid.last mid.ahead)) (sym same);
      stays = stays_on start here mid still.stays next.1;
    }

    -- and fewer tokens are left
    pub loop_falls : length mid.ahead < length here.ahead
    loop_falls = fewer E element step starts between stop e s here.last here.ahead a mid.ahead (more_by a mid.ahead (starts_at starts (first here.ahead)) (sym tried ∙ next.0)).1

  none_by : (us : List Lexeme) (b : Bool) → Tried b ≡ Ok (None, us) → (b ≡ false) × (here.ahead ≡ us)
  none_by us true h = absurd (never_none (element s here.last here.ahead) us h)
  none_by us false h = (refl, ap rest_in h)

  -- all were found
  pub loop_is_over : (new : Cursor) → Reached (another starts (element s)) here None new → Reached p start found new
  loop_is_over new next =
      let n = none_by new.ahead (starts_at starts (first here.ahead)) (sym tried ∙ next.0) in
      (still.reads ∙ ap (prepend found) (goes ∙ ap Goes n.0) ∙ ap (λ (all : List A). Ok (all, here.ahead)) (append-nil found) ∙ ap (λ (z : List Lexeme). Ok (found, z)) n.1, stays_on start here new still.stays next.1)

  fault_by : (r : Refusal) (b : Bool) → Tried b ≡ Err r → prepend found (Goes b) ≡ Err r
  fault_by r true h = rw (err_of (λ (a : A). Some a) (element s here.last here.ahead) r h) refl
  fault_by r false h = absurd cc

  -- one was refused
  pub loop_fails : (k : ReadRefusal) (new : Cursor) → Failed (another starts (element s)) k here new → Failed p k start new
  loop_fails NoMemory new f = (tt, stays_on start here new still.stays f.1)
  loop_fails (Refused r) new f = (still.reads ∙ ap (prepend found) goes ∙ fault_by r (starts_at starts (first here.ahead)) (sym tried ∙ f.0), stays_on start here new still.stays f.1)

-- room as the code counts it
pub less_is : (room : ℕ) → less room ≡ room - 1
less_is zero = omega arith
less_is (suc room) = omega arith
