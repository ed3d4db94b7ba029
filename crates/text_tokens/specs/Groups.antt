-- A small format in which something is judged that may still go on.
--   groups := { group } "end"
--   group  := "entry" NUMBER { "pair" NUMBER }
-- Limits: 2 pairs of one group, 9 for the number of a pair.
-- A group whose number is not that of its pairs is refused on its own line,
-- once what stands behind it is no further pair.
use Rattle.std.specs.Prelude.{ℕ, Bool, ◌==◌, if◌then◌else◌, List, length, Option, Some, None, codes}
use Rattle.text_tokens.specs.declared.token.TokenKind.TheVariants.{Word}
use Rattle.text_tokens.specs.declared.refusal.Refusal.{Refusal}
use Rattle.text_tokens.specs.declared.refusal.RefusalKind.TheVariants.{BadRange, BadEntry}
use Rattle.text_tokens.specs.Text.{Lexeme}
use Rattle.text_tokens.specs.Cursor.{is_the}
use Rattle.text_tokens.specs.Reading.{Reader, ◌>>=◌, pure, no_limit, the_line, too_large, numeral, closed, judged, limited, repeated, at_most}
use Rattle.text_tokens.specs.Grammar.{Lang, Then, Made, IsThe, IsNumeral, Closed, Judged, Repeated, AtMost}

abbrev pub is_group : Lexeme → Bool
is_group = is_the Word (codes "entry")

abbrev pub is_group_pair : Lexeme → Bool
is_group_pair = is_the Word (codes "pair")

abbrev pub is_groups_end : Lexeme → Bool
is_groups_end = is_the Word (codes "end")

-- a group, with the line of its word
pub record WrittenGroup : Type 0 where
  pub line : ℕ
  pub count : ℕ
  pub pairs : List ℕ

-- what is wrong with a group
abbrev pub group_fault : WrittenGroup → Option Refusal
group_fault e = if length e.pairs == e.count then None else Some (record { line = e.line; kind = BadEntry })

-- ---- the grammar

abbrev pub IsGroupPair : Lang ℕ
IsGroupPair = Then (IsThe is_group_pair) (λ line. IsNumeral (too_large 9 BadRange))

abbrev pub IsUnjudgedGroup : Lang WrittenGroup
IsUnjudgedGroup =
    Then (IsThe is_group) (λ line.
    Then (IsNumeral no_limit) (λ count.
    Made (AtMost 2 IsGroupPair) (λ ps. record { line = line; count = count; pairs = ps })))

abbrev pub IsGroup : Lang WrittenGroup
IsGroup = Judged IsUnjudgedGroup group_fault

abbrev pub same_state : Unit {0} → WrittenGroup → Unit {0}
same_state s e = s

abbrev pub AreGroups : Lang (List WrittenGroup)
AreGroups = Closed (Repeated (λ s. IsGroup) same_state tt) is_groups_end

-- ---- reading it

unfoldable pub a_group_pair : Reader ℕ
a_group_pair = the_line is_group_pair >>= λ line. numeral (too_large 9 BadRange)

abbrev pub group_pair_in : ℕ → Reader ℕ
group_pair_in room = limited is_group_pair no_limit room a_group_pair

unfoldable pub all_group_pairs : Reader (List ℕ)
all_group_pairs = at_most is_group_pair no_limit 2 a_group_pair

unfoldable pub unjudged_group : Reader WrittenGroup
unjudged_group = do
  line ← the_line is_group
  count ← numeral no_limit
  ps ← all_group_pairs
  pure (record { line = line; count = count; pairs = ps })

unfoldable pub a_group : Reader WrittenGroup
a_group = judged unjudged_group group_fault

abbrev pub group_in : Unit {0} → Reader WrittenGroup
group_in s = a_group

unfoldable pub all_groups : Reader (List WrittenGroup)
all_groups = repeated is_group group_in same_state tt

unfoldable pub groups_to_end : Reader (List WrittenGroup)
groups_to_end = closed all_groups is_groups_end
