-- When a group is judged.
use Rattle.std.specs.Prelude.{ℕ, List, [], ◌∷◌, codes}
use Rattle.text_tokens.specs.declared.token.TokenKind.TheVariants.{Word, Number}
use Rattle.text_tokens.specs.declared.refusal.Refusal.{Refusal}
use Rattle.text_tokens.specs.declared.refusal.RefusalKind.TheVariants.{BadByte, Unexpected, TooMany, BadEntry}
use Rattle.text_tokens.specs.Text.{Lexeme}
use Rattle.text_tokens.specs.Cursor.{on_line}
use Rattle.text_tokens.specs.Lawful.{IsFault}
use Rattle.text_tokens.specs.Groups.{AreGroups}

abbrev pub word_on : ℕ → List ℕ → Lexeme
word_on line text = record { kind = Word; text = text; «from» = 0; line = line }

abbrev pub number_on : ℕ → List ℕ → Lexeme
number_on line text = record { kind = Number; text = text; «from» = 0; line = line }

-- on line 1 a group of two pairs, on line 2 one of them, and then what follows
abbrev pub half_group : List Lexeme → List Lexeme
half_group rest = word_on 1 (codes "entry") ∷ number_on 1 (codes "2")
    ∷ word_on 2 (codes "pair") ∷ number_on 2 (codes "7") ∷ rest

-- a further pair
abbrev pub pair_on : ℕ → List Lexeme → List Lexeme
pair_on line rest = word_on line (codes "pair") ∷ number_on line (codes "8") ∷ rest

-- behind the tokens stands a byte that begins none, on line 3
abbrev pub IsGroupsFault : List Lexeme → Refusal → Type 0
IsGroupsFault ts r = IsFault AreGroups (on_line 3 BadByte) ts r

pub record GroupsAreJudged : Type 0 where
  -- before a further pair it is not judged
  pub not_early : IsGroupsFault (half_group (pair_on 3 [])) (on_line 1 BadEntry) → ⊥
  -- before another token it is, and that token is not looked at
  pub judged : IsGroupsFault (half_group (word_on 3 (codes "foo") ∷ [])) (on_line 1 BadEntry)
  pub not_late : IsGroupsFault (half_group (word_on 3 (codes "foo") ∷ [])) (on_line 3 Unexpected) → ⊥
  -- so it is before the word of a further entry, before `end`,
  -- and before a byte that begins no token
  pub before_entry : IsGroupsFault (half_group (word_on 3 (codes "entry") ∷ [])) (on_line 1 BadEntry)
  pub before_end : IsGroupsFault (half_group (word_on 3 (codes "end") ∷ [])) (on_line 1 BadEntry)
  pub before_byte : IsGroupsFault (half_group []) (on_line 1 BadEntry)
  -- but a fault within it comes first
  pub within : IsGroupsFault (half_group (word_on 3 (codes "pair") ∷ [])) (on_line 3 BadByte)
  pub one_too_many : IsGroupsFault (half_group (pair_on 3 (pair_on 4 []))) (on_line 4 TooMany)
