use Rattle.std.proofs.Common.{◌≡◌, ℕ, List, [], ◌∷◌, Result, Ok, Err, refl, sym, ap, subst, ◌∙◌}
use Rattle.std.specs.Prelude.{codes}
use Rattle.text_tokens.specs.declared.refusal.Refusal.{Refusal}
use Rattle.text_tokens.specs.declared.refusal.RefusalKind.TheVariants.{BadByte, Unexpected, TooMany, Trailing, BadRange, BadEntry}
use Rattle.text_tokens.specs.Text.{Lexeme}
use Rattle.text_tokens.specs.Cursor.{same_kind, on_line}
use Rattle.text_tokens.specs.Reading.{Answer, Reader, one_within, the_line, too_large, is_number, numeral, either, limited, elements, repeated, whole_input}
use Rattle.text_tokens.specs.Grammar.{IsNumeral, Limited}
use Rattle.text_tokens.specs.Lawful.{IsText, IsFault, Tells, Exact, always}
use Rattle.text_tokens.specs.Inputs.{TellsInput}
use Rattle.text_tokens.specs.Groups.{WrittenGroup, AreGroups, a_group_pair, all_group_pairs, unjudged_group, a_group, all_groups, groups_to_end}
use Rattle.text_tokens.specs.GroupFaults.{word_on, number_on, half_group, pair_on, IsGroupsFault}
use Rattle.text_tokens.specs.GroupTexts as read
use Rattle.text_tokens.proofs.Exactness.{exact}
use Rattle.text_tokens.proofs.CombinatorLemmas.{decided}
use Rattle.text_tokens.proofs.ChoiceLemmas.{part_limited}
use Rattle.text_tokens.proofs.LexemeLemmas.{a_numeral, starts_numeral}
use Rattle.text_tokens.proofs.InputLemmas.{exact_input, decided_input}
use Rattle.text_tokens.proofs.GroupLaws.{exact_groups}
use Rattle.text_tokens.proofs.examples.groups_are_decided.Goals as goal

pub returns-clause-exact : goal.returns-clause-exact
returns-clause-exact c = exact_groups

pub returns-clause-decided : goal.returns-clause-decided
returns-clause-decided c = decided AreGroups groups_to_end exact_groups

pub returns-clause-input : goal.returns-clause-input
returns-clause-input c = decided_input AreGroups Trailing groups_to_end exact_groups

abbrev Answers : List Lexeme → Refusal → Type 0
Answers ts r = ◌≡◌ {A = Answer (List WrittenGroup)} (groups_to_end (on_line 3 BadByte) ts) (Err r)

goes_on : Answers (half_group (pair_on 3 [])) (on_line 3 BadByte)
unfolding same_kind one_within the_line numeral either limited elements repeated a_group_pair all_group_pairs unjudged_group a_group all_groups groups_to_end
goes_on = refl

before_foo : Answers (half_group (word_on 3 (codes "foo") ∷ [])) (on_line 1 BadEntry)
unfolding same_kind one_within the_line numeral either limited elements repeated a_group_pair all_group_pairs unjudged_group a_group all_groups groups_to_end
before_foo = refl

before_entry : Answers (half_group (word_on 3 (codes "entry") ∷ [])) (on_line 1 BadEntry)
unfolding same_kind one_within the_line numeral either limited elements repeated a_group_pair all_group_pairs unjudged_group a_group all_groups groups_to_end
before_entry = refl

before_end : Answers (half_group (word_on 3 (codes "end") ∷ [])) (on_line 1 BadEntry)
unfolding same_kind one_within the_line numeral either limited elements repeated a_group_pair all_group_pairs unjudged_group a_group all_groups groups_to_end
before_end = refl

before_byte : Answers (half_group []) (on_line 1 BadEntry)
unfolding same_kind one_within the_line numeral either limited elements repeated a_group_pair all_group_pairs unjudged_group a_group all_groups groups_to_end
before_byte = refl

within : Answers (half_group (word_on 3 (codes "pair") ∷ [])) (on_line 3 BadByte)
unfolding same_kind one_within the_line numeral either limited elements repeated a_group_pair all_group_pairs unjudged_group a_group all_groups groups_to_end
within = refl

beyond : Answers (half_group (pair_on 3 (pair_on 4 []))) (on_line 4 TooMany)
unfolding same_kind one_within the_line numeral either limited elements repeated a_group_pair all_group_pairs unjudged_group a_group all_groups groups_to_end
beyond = refl

is_it : (ts : List Lexeme) (r : Refusal) → Answers ts r → IsGroupsFault ts r
is_it ts r e = subst (λ (s : Answer (List WrittenGroup)). Tells AreGroups (on_line 3 BadByte) ts s) e (exact_groups.tells (on_line 3 BadByte) ts)

is_other : (ts : List Lexeme) (r s : Refusal) → Answers ts r → IsGroupsFault ts s → r.kind ≡ s.kind
is_other ts r s e f = let g : ◌≡◌ {A = Answer (List WrittenGroup)} (Err r) (Err s) = sym e ∙ exact_groups.only (on_line 3 BadByte) ts (Err s) f in let h : r ≡ s = cc in ap (λ (r : Refusal). r.kind) h

pub returns-clause-judged : goal.returns-clause-judged
returns-clause-judged c = record {
  not_early = λ f. let k : BadByte ≡ BadEntry = is_other _ (on_line 3 BadByte) (on_line 1 BadEntry) goes_on f in absurd cc;
  judged = is_it _ (on_line 1 BadEntry) before_foo;
  not_late = λ f. let k : BadEntry ≡ Unexpected = is_other _ (on_line 1 BadEntry) (on_line 3 Unexpected) before_foo f in absurd cc;
  before_entry = is_it _ (on_line 1 BadEntry) before_entry;
  before_end = is_it _ (on_line 1 BadEntry) before_end;
  before_byte = is_it _ (on_line 1 BadEntry) before_byte;
  within = is_it _ (on_line 3 BadByte) within;
  one_too_many = is_it _ (on_line 4 TooMany) beyond;
}

-- ---- texts and whole inputs

tells : (last : Refusal) (ts : List Lexeme) (r : Answer (List WrittenGroup)) → groups_to_end last ts ≡ r → Tells AreGroups last ts r
tells last ts r e = subst (λ (s : Answer (List WrittenGroup)). Tells AreGroups last ts s) e (exact_groups.tells last ts)

tells_input : (last : Refusal) (ts : List Lexeme) (r : Result (List WrittenGroup) Refusal) → whole_input Trailing groups_to_end last ts ≡ r → TellsInput AreGroups Trailing last ts r
tells_input last ts r e = subst (λ (s : Result (List WrittenGroup) Refusal). TellsInput AreGroups Trailing last ts s) e ((exact_input AreGroups Trailing groups_to_end exact_groups).tells last ts)

text_read : IsText AreGroups (read.closed_by_end (word_on 10 (codes "entry") ∷ [])) read.two_groups (word_on 10 (codes "entry") ∷ [])
unfolding same_kind one_within the_line numeral either limited elements repeated a_group_pair all_group_pairs unjudged_group a_group all_groups groups_to_end
text_read = tells read.ends _ (Ok (_, _)) refl

nothing_read : IsText AreGroups (word_on 1 (codes "end") ∷ []) [] []
unfolding same_kind one_within the_line numeral either limited elements repeated a_group_pair all_group_pairs unjudged_group a_group all_groups groups_to_end
nothing_read = tells read.ends _ (Ok (_, _)) refl

large_read : IsFault AreGroups read.ends (read.two_groups_then (codes "10") (word_on 9 (codes "end") ∷ [])) (on_line 6 BadRange)
unfolding same_kind one_within the_line numeral either limited elements repeated a_group_pair all_group_pairs unjudged_group a_group all_groups groups_to_end
large_read = tells _ _ (Err _) refl

input_read : read.IsWholeInput read.ends (read.closed_by_end []) read.two_groups
unfolding same_kind one_within the_line numeral either limited elements repeated a_group_pair all_group_pairs unjudged_group a_group all_groups groups_to_end
input_read = tells_input _ _ (Ok _) refl

trailing_read : read.IsWholeInputFault read.ends (read.closed_by_end (word_on 10 (codes "entry") ∷ [])) (on_line 10 Trailing)
unfolding same_kind one_within the_line numeral either limited elements repeated a_group_pair all_group_pairs unjudged_group a_group all_groups groups_to_end
trailing_read = tells_input _ _ (Err _) refl

bad_byte_read : read.IsWholeInputFault read.bad (read.closed_by_end []) read.bad
unfolding same_kind one_within the_line numeral either limited elements repeated a_group_pair all_group_pairs unjudged_group a_group all_groups groups_to_end
bad_byte_read = tells_input _ _ (Err _) refl

trailing_first_read : read.IsWholeInputFault read.bad (read.closed_by_end (word_on 10 (codes "entry") ∷ [])) (on_line 10 Trailing)
unfolding same_kind one_within the_line numeral either limited elements repeated a_group_pair all_group_pairs unjudged_group a_group all_groups groups_to_end
trailing_first_read = tells_input _ _ (Err _) refl

truncated_read : read.IsWholeInputFault read.ends (read.two_groups_then (codes "9") []) read.ends
unfolding same_kind one_within the_line numeral either limited elements repeated a_group_pair all_group_pairs unjudged_group a_group all_groups groups_to_end
truncated_read = tells_input _ _ (Err _) refl

bad_early_read : read.IsWholeInputFault read.bad (read.two_groups_then (codes "9") []) read.bad
unfolding same_kind one_within the_line numeral either limited elements repeated a_group_pair all_group_pairs unjudged_group a_group all_groups groups_to_end
bad_early_read = tells_input _ _ (Err _) refl

within_read : read.IsWholeInputFault read.ends (word_on 1 (codes "entry") ∷ number_on 1 (codes "1") ∷ word_on 2 (codes "end") ∷ word_on 3 (codes "end") ∷ []) (on_line 1 BadEntry)
unfolding same_kind one_within the_line numeral either limited elements repeated a_group_pair all_group_pairs unjudged_group a_group all_groups groups_to_end
within_read = tells_input _ _ (Err _) refl

-- numbers of which none may come

abbrev no_number : Reader ℕ
no_number = limited is_number (too_large 9 BadRange) 0 (numeral (too_large 9 BadRange))

exact_no_number : Exact (Limited (IsNumeral (too_large 9 BadRange)) 0) no_number
exact_no_number = exact _ _ (part_limited (IsNumeral (too_large 9 BadRange)) (numeral (too_large 9 BadRange)) is_number (too_large 9 BadRange) (starts_numeral (too_large 9 BadRange)) always (a_numeral (too_large 9 BadRange)) 0).law

large_and_many_read : IsFault (Limited (IsNumeral (too_large 9 BadRange)) 0) read.ends (number_on 1 (codes "10") ∷ []) (on_line 1 TooMany)
unfolding same_kind limited
large_and_many_read = exact_no_number.tells read.ends (number_on 1 (codes "10") ∷ [])

pub returns-clause-read : goal.returns-clause-read
returns-clause-read c = record { text = text_read; nothing = nothing_read; large = large_read; large_and_many = large_and_many_read; input = input_read; trailing = trailing_read; bad_byte = bad_byte_read; trailing_first = trailing_first_read; truncated = truncated_read; bad_early = bad_early_read; within = within_read }
