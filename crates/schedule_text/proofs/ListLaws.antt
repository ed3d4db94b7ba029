-- The readers of lists are parts for their grammars.
use Rattle.std.proofs.Common.{◌≡◌, ℕ, Bool, true, false, List, ◌∷◌, refl}
use Rattle.std.specs.Prelude.{codes, not}
use Rattle.std.proofs.lemmas.Bool.{not-true}
use Rattle.text_tokens.specs.declared.token.TokenKind.TheVariants.{Word, Number}
use Rattle.text_tokens.specs.declared.refusal.RefusalKind.TheVariants.{TooMany}
use Rattle.text_tokens.specs.Text.{Lexeme}
use Rattle.text_tokens.specs.Cursor.{same_kind}
use Rattle.text_tokens.specs.Reading.{◌>>=◌, is_number, no_limit, too_large, closed}
use Rattle.text_tokens.specs.Grammar.{Then, Made, Closed}
use Rattle.text_tokens.specs.Lawful.{Exact, IsPart, always, Starts, AreElements}
use Rattle.text_tokens.proofs.Exactness.{exact}
use Rattle.text_tokens.proofs.RepeatedLemmas.{part_repeated}
use Rattle.text_tokens.proofs.LexemeLemmas.{other_kind, other_text, a_numeral, starts_numeral}
use Rattle.text_tokens.proofs.JoinedParts.{one_behind, into, starts_behind}
use Rattle.claim_core.specs.Limits.{most_turns}
use Rattle.shape_text.specs.Parts.{word, is_end, one_more}
use Rattle.shape_text.proofs.PartLaws.{up_to_end, starts_word, part_word, part_word_within, starts_word_within}
use Rattle.schedule_text.specs.Lists.{past_ids, IsId, IdsFrom, AreIds, is_list, past_lists, IsListWord, IsCallerList, ListsFrom, lists_of, IsTurnCount, IsLists}
use Rattle.schedule_text.specs.Readers.{an_id, ids_from, all_ids, list_word, a_list, lists_from, all_lists, some_turns, the_lists}

-- a word is no number
pub word_no_number : (text : List ℕ) (t : Lexeme) → word text t ≡ true → is_number t ≡ false
unfolding same_kind
word_no_number text t e = other_kind Word Number text t refl e

-- nothing but an id goes on behind the ids of a list
pub no_number : Lexeme → Bool
no_number t = not (is_number t)

module _ (bots : ℕ) where
  part_id : (before : ℕ) → IsPart (IsId bots before) (an_id bots before) always
  unfolding an_id
  part_id before = a_numeral (past_ids bots before)

  pub id_elements : AreElements (IsId bots) (an_id bots) is_number always no_number
  unfolding no_number
  id_elements = record {
    over = past_ids bots;
    start = λ before. starts_numeral (past_ids bots before);
    part = part_id;
    again = λ t e. refl;
    ends = λ t e. refl;
    differ = λ t e. not-true (is_number t) e;
  }

  pub part_ids_from : (before : ℕ) → IsPart (IdsFrom bots before) (ids_from bots before) no_number
  unfolding ids_from
  part_ids_from before = part_repeated (IsId bots) (an_id bots) one_more is_number always no_number id_elements before

  part_ids : IsPart (AreIds bots) (all_ids bots) no_number
  unfolding all_ids
  part_ids = one_behind (part_id 0) (λ id. into (λ more. id ∷ more) (part_ids_from 1))

  module _ (turns : ℕ) where
    part_list_word : (before : ℕ) → IsPart (IsListWord turns before) (list_word turns before) always
    unfolding list_word
    part_list_word before = part_word_within (codes "list") (past_lists turns before) refl

    part_list : (before : ℕ) → IsPart (IsCallerList bots turns before) (a_list bots turns before) no_number
    unfolding a_list
    part_list before = one_behind (part_list_word before) (λ line. part_ids)

    pub list_elements : AreElements (IsCallerList bots turns) (a_list bots turns) is_list no_number is_end
    unfolding no_number
    list_elements = record {
      over = past_lists turns;
      start = λ before. starts_behind (starts_word_within (codes "list") (past_lists turns before)) (λ line. part_ids);
      part = part_list;
      again = λ t e. rw (word_no_number (codes "list") t e) refl;
      ends = λ t e. rw (word_no_number (codes "end") t e) refl;
      differ = λ t e. other_text Word (codes "end") (codes "list") t refl e;
    }

    pub part_lists_from : (before : ℕ) → IsPart (ListsFrom bots turns before) (lists_from bots turns before) is_end
    unfolding lists_from
    part_lists_from before = part_repeated (IsCallerList bots turns) (a_list bots turns) one_more is_list no_number is_end list_elements before

    part_all_lists : IsPart (Made (ListsFrom bots turns 0) (λ ids. lists_of turns ids)) (all_lists bots turns) is_end
    unfolding all_lists
    part_all_lists = into (λ ids. lists_of turns ids) (part_lists_from 0)

part_turns : IsPart IsTurnCount some_turns always
unfolding some_turns
part_turns = one_behind (part_word (codes "turns") refl) (λ line. a_numeral (too_large most_turns TooMany))

part_turns_and_lists : (bots : ℕ) → IsPart (Then IsTurnCount (λ turns. Closed (Made (ListsFrom bots turns 0) (λ ids. lists_of turns ids)) is_end)) (some_turns >>= λ turns. closed (all_lists bots turns) is_end) always
part_turns_and_lists bots = one_behind part_turns (λ turns. up_to_end (part_all_lists bots turns))

pub part_lists : (bots : ℕ) → IsPart (IsLists bots) (the_lists bots) always
unfolding the_lists
part_lists bots = one_behind (part_word (codes "lists") refl) (λ line. part_turns_and_lists bots)

pub starts_lists : (bots : ℕ) → Starts (IsLists bots) (word (codes "lists")) no_limit
starts_lists bots = starts_word (codes "lists") (λ line. part_turns_and_lists bots)

pub exact_lists : (bots : ℕ) → Exact (IsLists bots) (the_lists bots)
exact_lists bots = exact (IsLists bots) (the_lists bots) (part_lists bots).law

pub exact_ids_from : (bots before : ℕ) → Exact (IdsFrom bots before) (ids_from bots before)
exact_ids_from bots before = exact (IdsFrom bots before) (ids_from bots before) (part_ids_from bots before).law

pub exact_lists_from : (bots turns before : ℕ) → Exact (ListsFrom bots turns before) (lists_from bots turns before)
exact_lists_from bots turns before = exact (ListsFrom bots turns before) (lists_from bots turns before) (part_lists_from bots turns before).law
