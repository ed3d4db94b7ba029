-- The laws of groups.
use Rattle.std.proofs.Common.{ℕ, Bool, refl, ap}
use Rattle.std.proofs.lemmas.Bool.{not-true}
use Rattle.std.specs.Prelude.{codes, not}
use Rattle.text_tokens.specs.declared.token.TokenKind.TheVariants.{Word}
use Rattle.text_tokens.specs.declared.refusal.RefusalKind.TheVariants.{BadRange}
use Rattle.text_tokens.specs.Text.{Lexeme}
use Rattle.text_tokens.specs.Reading.{◌>>=◌, pure, no_limit, the_line, too_large, numeral, less}
use Rattle.text_tokens.specs.Grammar.{Lang, Then, Made, IsThe, IsNumeral, Limited, Repeated, AtMost}
use Rattle.text_tokens.specs.Lawful.{Exact, IsPart, always, Starts, AreElements}
use Rattle.text_tokens.specs.Groups.{is_group, is_group_pair, is_groups_end, WrittenGroup, group_fault, IsGroupPair, IsUnjudgedGroup, IsGroup, same_state, AreGroups, a_group_pair, group_pair_in, all_group_pairs, unjudged_group, a_group, group_in, all_groups, groups_to_end}
use Rattle.text_tokens.proofs.Exactness.{exact}
use Rattle.text_tokens.proofs.CarriedTexts.{part_made}
use Rattle.text_tokens.proofs.Parts.{some_text, part_behind, part_closed, part_judged}
use Rattle.text_tokens.proofs.StartsLemmas.{starts_then, starts_judged}
use Rattle.text_tokens.proofs.RepeatedLemmas.{at_most_elements, part_repeated}
use Rattle.text_tokens.proofs.LexemeLemmas.{passing, passes, other_text, a_token, a_numeral, starts_the}

-- ---- pairs

part_pair : IsPart IsGroupPair a_group_pair always
unfolding a_group_pair
part_pair = part_behind (IsThe is_group_pair) (the_line is_group_pair) (λ line. IsNumeral (too_large 9 BadRange)) (λ line. numeral (too_large 9 BadRange)) always (a_token Word (codes "pair") refl) (λ line. a_numeral (too_large 9 BadRange))

starts_pair : Starts IsGroupPair is_group_pair no_limit
starts_pair = starts_then (IsThe is_group_pair) (λ line. IsNumeral (too_large 9 BadRange)) is_group_pair no_limit (starts_the is_group_pair) (λ line. some_text (IsNumeral (too_large 9 BadRange)) (numeral (too_large 9 BadRange)) (a_numeral (too_large 9 BadRange)).law)

-- nothing but a pair goes on behind the pairs of a group
abbrev pub no_pair : Lexeme → Bool
no_pair t = not (is_group_pair t)

abbrev pub PairIn : ℕ → Lang ℕ
PairIn room = Limited IsGroupPair room

pub pair_elements : AreElements PairIn group_pair_in is_group_pair always no_pair
pair_elements = at_most_elements IsGroupPair a_group_pair is_group_pair no_limit always no_pair starts_pair part_pair (λ t e. refl) (λ t e. refl) (λ t e. not-true (is_group_pair t) e)

part_pairs : IsPart (AtMost 2 IsGroupPair) all_group_pairs no_pair
unfolding all_group_pairs
part_pairs = part_repeated PairIn group_pair_in (λ room a. less room) is_group_pair always no_pair pair_elements 2

-- ---- groups

abbrev WithPairs : ℕ → ℕ → Lang WrittenGroup
WithPairs line count = Made (AtMost 2 IsGroupPair) (λ ps. record { line = line; count = count; pairs = ps })

abbrev WithCount : ℕ → Lang WrittenGroup
WithCount line = Then (IsNumeral no_limit) (WithPairs line)

part_count : (line : ℕ) → IsPart (WithCount line) (numeral no_limit >>= λ count. all_group_pairs >>= λ ps. pure (record { line = line; count = count; pairs = ps })) no_pair
part_count line = part_behind (IsNumeral no_limit) (numeral no_limit) (WithPairs line) _ no_pair (a_numeral no_limit) (λ count. part_made (AtMost 2 IsGroupPair) (λ ps. record { line = line; count = count; pairs = ps }) all_group_pairs no_pair part_pairs)

part_noted : IsPart IsUnjudgedGroup unjudged_group no_pair
unfolding unjudged_group
part_noted = part_behind (IsThe is_group) (the_line is_group) WithCount _ no_pair (a_token Word (codes "entry") refl) part_count

part_entry : IsPart IsGroup a_group no_pair
unfolding a_group
part_entry = part_judged IsUnjudgedGroup unjudged_group group_fault no_pair part_noted

starts_entry : Starts IsGroup is_group no_limit
starts_entry = starts_judged IsUnjudgedGroup group_fault is_group no_limit (starts_then (IsThe is_group) WithCount is_group no_limit (starts_the is_group) (λ line. some_text (WithCount line) _ (part_count line).law))

abbrev pub EntryIn : Unit {0} → Lang WrittenGroup
EntryIn s = IsGroup

pub entry_elements : AreElements EntryIn group_in is_group no_pair is_groups_end
entry_elements = record {
  over = λ s. no_limit;
  start = λ s. starts_entry;
  part = λ s. part_entry;
  again = λ t e. ap not (other_text Word (codes "entry") (codes "pair") t refl e);
  ends = λ t e. ap not (other_text Word (codes "end") (codes "pair") t refl e);
  differ = λ t e. other_text Word (codes "end") (codes "entry") t refl e;
}

part_entries : IsPart (Repeated (λ s. IsGroup) same_state tt) all_groups is_groups_end
unfolding all_groups
part_entries = part_repeated EntryIn group_in same_state is_group no_pair is_groups_end entry_elements tt

-- ---- the whole

pub part_groups : IsPart AreGroups groups_to_end always
unfolding groups_to_end
part_groups = part_closed (Repeated (λ s. IsGroup) same_state tt) all_groups is_groups_end (passing Word (codes "end")) (passes Word (codes "end") refl) part_entries

pub exact_groups : Exact AreGroups groups_to_end
exact_groups = exact AreGroups groups_to_end part_groups.law
