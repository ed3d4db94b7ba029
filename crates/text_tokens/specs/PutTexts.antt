-- Some texts and faults of the small format whose forms begin alike.
-- Each token stands on a line of its own, and the text ends on line 20.
use Rattle.std.specs.Prelude.{ℕ, true, false, List, [], ◌∷◌, Some, None, codes}
use Rattle.text_tokens.specs.declared.refusal.Refusal.{Refusal}
use Rattle.text_tokens.specs.declared.refusal.RefusalKind.TheVariants.{Unexpected, TooMany, Truncated}
use Rattle.text_tokens.specs.Text.{Lexeme}
use Rattle.text_tokens.specs.Cursor.{on_line}
use Rattle.text_tokens.specs.Promises.{word_from, number_from, sign_from}
use Rattle.text_tokens.specs.Lawful.{IsText, IsFault}
use Rattle.text_tokens.specs.Puts.{Put, a_summand, a_put, IsPut}

abbrev pub name_token : ℕ → List ℕ → Lexeme
name_token line text = word_from 0 line text

abbrev pub digits : ℕ → List ℕ → Lexeme
digits line text = number_from 0 line text

abbrev pub op : ℕ → List ℕ → Lexeme
op line text = sign_from 0 line text

abbrev pub IsPutText : List Lexeme → Put → List Lexeme → Type 0
IsPutText ts put rest = IsText IsPut ts put rest

abbrev pub IsPutFault : List Lexeme → Refusal → Type 0
IsPutFault ts r = IsFault IsPut (on_line 20 Truncated) ts r

-- a :=
abbrev pub to_a : List Lexeme → List Lexeme
to_a rest = name_token 1 (codes "a") ∷ op 2 (codes ":=") ∷ rest

-- 1 + 2 + 3 + 4
abbrev pub four : List Lexeme → List Lexeme
four rest =
    digits 3 (codes "1") ∷ op 4 (codes "+") ∷ digits 5 (codes "2") ∷ op 6 (codes "+") ∷ digits 7 (codes "3")
    ∷ op 8 (codes "+") ∷ digits 9 (codes "4") ∷ rest

pub record PutsAreRead : Type 0 where
  -- a := 1 - 2, and what goes on no further
  pub own : IsPutText
      (to_a (digits 3 (codes "1") ∷ op 4 (codes "-") ∷ digits 5 (codes "2") ∷ name_token 6 (codes "b") ∷ []))
      (a_put None (codes "a") (a_summand false 1 ∷ a_summand true 2 ∷ [])) (name_token 6 (codes "b") ∷ [])
  -- a . b := - 1
  pub others : IsPutText
      (name_token 1 (codes "a") ∷ op 2 (codes ".")
      ∷ name_token 3 (codes "b") ∷ op 4 (codes ":=") ∷ op 5 (codes "-")
      ∷ digits 6 (codes "1") ∷ [])
      (a_put (Some (codes "a")) (codes "b") (a_summand true 1 ∷ [])) []
  -- behind a name neither form goes on so, and behind the point a name is needed
  pub neither : IsPutFault (name_token 1 (codes "a") ∷ op 2 (codes ";") ∷ []) (on_line 2 Unexpected)
  pub alone : IsPutFault (name_token 1 (codes "a") ∷ []) (on_line 20 Truncated)
  pub no_name : IsPutFault (name_token 1 (codes "a") ∷ op 2 (codes ".") ∷ op 3 (codes ":=") ∷ [])
      (on_line 3 Unexpected)
  -- a sign needs a number
  pub no_number : IsPutFault
      (to_a (digits 3 (codes "1") ∷ op 4 (codes "+") ∷ op 5 (codes "-") ∷ [])) (on_line 5 Unexpected)
  pub no_more : IsPutFault (to_a (digits 3 (codes "1") ∷ op 4 (codes "+") ∷ [])) (on_line 20 Truncated)
  -- the fifth number, and what is none
  pub fifth : IsPutFault (to_a (four (op 10 (codes "+") ∷ digits 11 (codes "5") ∷ []))) (on_line 11 TooMany)
  pub no_fifth : IsPutFault (to_a (four (op 10 (codes "+") ∷ name_token 11 (codes "b") ∷ [])))
      (on_line 11 Unexpected)
