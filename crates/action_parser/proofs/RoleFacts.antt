-- What the role of a token says of it.
use Rattle.std.proofs.Common.{◌≡◌, ◌≤◌, ℕ, true, List, [], ◌∷◌, length, drop, Some, Ok, refl, sym, ap, subst, ◌∙◌}
use Rattle.std.specs.Prelude.{option_map}
use Rattle.text_tokens.specs.declared.token.TokenKind.{TokenKind}
use Rattle.text_tokens.specs.declared.token.TokenKind.TheVariants.{Word, Number}
use Rattle.text_tokens.specs.declared.refusal.Refusal.{Refusal}
use Rattle.text_tokens.specs.Text.{Lexeme}
use Rattle.text_tokens.specs.declared.token.Token.{Token}
use Rattle.text_tokens.specs.Cursor.{Cursor, slice, token_of, answer, answer_by, FirstIs, Spells}
use Rattle.text_tokens.specs.Reading.{Reader, first, by_role, one_within, no_limit}
use Rattle.text_tokens.specs.Text.{Cuts, most_bytes}
use Rattle.text_tokens.specs.Cursor.{IsDigits}
use Rattle.text_tokens.specs.Steps.{lexeme_of}
use Rattle.text_tokens.proofs.LexemeLemmas.{kind_is}
use Rattle.text_tokens.proofs.StepsLemmas.{is_number_of, Reached}
use Rattle.text_tokens.specs.declared.refusal.RefusalKind.TheVariants.{TooMany}
use Rattle.action_tree.specs.Expressions.{bound_at}
use Rattle.action_tree.specs.Words.{is_word}
use Rattle.action_tree.proofs.WordsLemmas.{cut_is_word}
use Rattle.action_tree.proofs.Conditions.{left_of}
use Rattle.action_tree.proofs.NameLemmas.{names, numbers}
use Rattle.action_tree.specs.declared.role.Role.{Role}
use Rattle.action_tree.specs.declared.role.Role.TheVariants as role_of
use Rattle.action_tree.specs.Roles.{role, role_by, is_a}
use Rattle.action_parser.proofs.Tokens.{passes}

-- a name is a word, and a number one
pub name_is_word : (t : Lexeme) → is_a role_of.AName t ≡ true → t.kind ≡ Word
name_is_word t e = kind_is Word t (left_of _ _ (sym (names t) ∙ e))

pub number_is_number : (t : Lexeme) → is_a role_of.ANumber t ≡ true → t.kind ≡ Number
number_is_number t e = kind_is Number t (sym (numbers t) ∙ e)

-- ---- a choice by the role of the next token

module _ {A : Type 0} (p : Role → Reader A) where
  pub chosen_by : (r : Role) (last : Refusal) (ts : List Lexeme) → option_map role (first ts) ≡ Some r → by_role role p last ts ≡ p r last ts
  unfolding by_role
  chosen_by r last [] e = absurd cc
  chosen_by r last (t ∷ ts) e = let is : role t ≡ r = cc in ap (λ (k : Role). p k last (t ∷ ts)) is

-- ---- the role of the next token, as the code sees it

seen_by : (source : List ℕ) (ls : List Lexeme) (last : Refusal) (t : Token) (r : Role) → Ok (Some t) ≡ answer_by ls last → FirstIs ls (slice source t) → r ≡ role_by t.kind (slice source t) → Some r ≡ option_map role (first ls)
unfolding role
seen_by source [] last t r e f is = absurd f
seen_by source (l ∷ ls) last t r e f is =
    let k : t ≡ token_of l = cc in
    ap (λ (r : Role). Some r) (is ∙ ap (λ (u : Token). role_by u.kind (slice source t)) k ∙ ap (λ (text : List ℕ). role_by l.kind text) (sym f))

pub seen : (c : Cursor) (t : Token) (r : Role) → Ok (Some t) ≡ answer c → Spells c t → r ≡ role_by t.kind (slice c.source t) → Some r ≡ option_map role (first c.ahead)
seen c t r e s is = seen_by c.source c.ahead c.last t r e s.bytes is

-- ---- what a token of a role spells

module _ (c : Cursor) (t : Token) (s : Spells c t) where
  pub name_spells : is_a role_of.AName (lexeme_of c.source t) ≡ true → is_word (slice c.source t) ≡ true
  name_spells e =
      let k : t.kind ≡ Word = name_is_word (lexeme_of c.source t) e in
      cut_is_word (slice c.source t) (drop t.to c.source) (subst (λ (kind : TokenKind). Cuts kind (slice c.source t) (drop t.to c.source)) k s.cuts) (subst (λ (kind : TokenKind). length (slice c.source t) ≤ most_bytes kind) k s.sized)

  pub number_spells : is_a role_of.ANumber (lexeme_of c.source t) ≡ true → IsDigits c.source t
  number_spells e = is_number_of c t s (number_is_number (lexeme_of c.source t) e)

-- the text of a name that was taken
pub name_text : (old new : Cursor) (t : Token) (text : List ℕ) → Spells old t → Reached (one_within (is_a role_of.AName) no_limit) old (lexeme_of old.source t) new → text ≡ slice new.source t → is_word text ≡ true
name_text old new t text spells read is =
    ap is_word (is ∙ ap (λ (source : List ℕ). slice source t) read.1.source) ∙ name_spells old t spells (passes (is_a role_of.AName) no_limit old new (lexeme_of old.source t) read)

-- ---- names that may still be bound

pub no_name_left : (names : ℕ) (t : Lexeme) → names ≡ 0 → bound_at names t ≡ Some TooMany
no_name_left names t e = rw e refl
