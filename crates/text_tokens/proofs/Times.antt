-- A part that is read so many times.
use Rattle.std.proofs.Common.{◌≡◌, ◌+◌, ◌<◌, ℕ, zero, suc, List, [], ◌∷◌, ◌++◌, Ok, refl, sym, ap, ◌∙◌, arith}
use Rattle.std.proofs.lemmas.List.{append-nil}
use Rattle.text_tokens.specs.declared.refusal.Refusal.{Refusal}
use Rattle.text_tokens.specs.declared.refusal.ReadRefusal.{ReadRefusal}
use Rattle.text_tokens.specs.declared.refusal.ReadRefusal.TheVariants.{Refused, NoMemory}
use Rattle.text_tokens.specs.Cursor.{Cursor}
use Rattle.text_tokens.specs.Reading.{Answer, Reader, answer_and_then, times}
use Rattle.text_tokens.proofs.StepsLemmas.{Reached, Failed, stays_on}
use Rattle.text_tokens.proofs.LoopLemmas.{prepend, StillReads, one_more_before}

module _ {A : Type 0} (p : Reader A) (whole : Reader (List A)) (start : Cursor) (found : List A) (here : Cursor) where
  abbrev Goes : ℕ → Answer (List A)
  Goes n = answer_and_then (p here.last here.ahead) (λ a us. answer_and_then (times p n here.last us) (λ rest vs. Ok (a ∷ rest, vs)))

  goes : (n : ℕ) → times p (suc n) here.last here.ahead ≡ Goes n
  unfolding times
  goes n = refl

  -- one more was read
  pub times_goes_on : (n m : ℕ) → n ≡ m + 1 → StillReads whole start found (times p n) here → (a : A) (mid : Cursor) → Reached p here a mid → (more : List A) → more ≡ found ++ a ∷ [] → StillReads whole start more (times p m) mid
  times_goes_on n m e still a mid s more same =
      let one : n ≡ suc m = omega arith in
      record {
        reads = still.reads ∙ ap (λ (k : ℕ). prepend found (times p k here.last here.ahead)) one ∙ ap (prepend found) (goes m)
            ∙ ap (λ (x : Answer A). prepend found (answer_and_then x (λ a us. answer_and_then (times p m here.last us) (λ rest vs. Ok (a ∷ rest, vs))))) s.0
            ∙ one_more_before found a (times p m here.last mid.ahead)
            ∙ ap (λ (last : Refusal). prepend (found ++ a ∷ []) (times p m last mid.ahead)) (sym s.1.last)
            ∙ ap (λ (fs : List A). prepend fs (times p m mid.last mid.ahead)) (sym same);
        stays = stays_on start here mid still.stays s.1;
      }

  -- one was refused
  pub times_fails : (n : ℕ) → 0 < n → StillReads whole start found (times p n) here → (k : ReadRefusal) (new : Cursor) → Failed p k here new → Failed whole k start new
  times_fails zero lt still k new f = absurd (omega arith)
  times_fails (suc n) lt still NoMemory new f = (tt, stays_on start here new still.stays f.1)
  times_fails (suc n) lt still (Refused r) new f = (still.reads ∙ ap (prepend found) (goes n ∙ ap (λ (x : Answer A). answer_and_then x (λ a us. answer_and_then (times p n here.last us) (λ rest vs. Ok (a ∷ rest, vs)))) f.0), stays_on start here new still.stays f.1)

  none_left : times p zero here.last here.ahead ≡ Ok ([], here.ahead)
  unfolding times
  none_left = refl

  -- all were read
  pub times_over : (n : ℕ) → n ≡ 0 → StillReads whole start found (times p n) here → Reached whole start found here
  times_over n e still = (still.reads ∙ ap (λ (k : ℕ). prepend found (times p k here.last here.ahead)) e ∙ ap (prepend found) none_left ∙ ap (λ (all : List A). Ok (all, here.ahead)) (append-nil found), still.stays)
