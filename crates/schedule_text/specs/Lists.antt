-- The section `lists`: the turns of each caller, and the callers' lists.
--   lists := "lists" "turns" NUMBER { list } "end"
--   list  := "list" NUMBER { NUMBER }
-- These are TooMany: turns above 65,536, the 17th `list`,
-- the `list` with which callers times turns pass 65,536, and the 4,097th id of a list.
-- That comes before whatever else is wrong with an id. An id that is no amoebot's is a BadId.
use Rattle.std.specs.Prelude.{ℕ, suc, ◌*◌, Bool, ◌&&◌, nat_le, if◌then◌else◌, List, ◌∷◌, Option, Some, None, codes}
use Rattle.text_tokens.specs.declared.refusal.RefusalKind.{RefusalKind}
use Rattle.text_tokens.specs.declared.refusal.RefusalKind.TheVariants.{TooMany}
use Rattle.text_tokens.specs.Text.{Lexeme}
use Rattle.text_tokens.specs.Reading.{too_large}
use Rattle.text_tokens.specs.Grammar.{Lang, IsOne, Then, Made, IsNumeral, Closed, Repeated}
use Rattle.claim_core.specs.Limits.{most_callers, most_turns, most_ids}
use Rattle.claim_core.specs.Turns.{CallerLists}
use Rattle.shape_text.specs.Parts.{word, is_end, one_more, IsWord}
use Rattle.schedule_text.specs.Known.{past_known}

-- ---- ids

-- one id too many behind so many, or that of none of so many amoebots
abbrev pub past_ids : ℕ → ℕ → Lexeme → Option RefusalKind
past_ids bots before t = past_known most_ids bots before t

-- an id behind so many
abbrev pub IsId : ℕ → ℕ → Lang ℕ
IsId bots before = IsNumeral (past_ids bots before)

abbrev pub IdsFrom : ℕ → ℕ → Lang (List ℕ)
IdsFrom bots before = Repeated (IsId bots) one_more before

-- at least one
abbrev pub AreIds : ℕ → Lang (List ℕ)
AreIds bots = Then (IsId bots 0) (λ id. Made (IdsFrom bots 1) (λ more. id ∷ more))

-- ---- lists

abbrev pub is_list : Lexeme → Bool
is_list = word (codes "list")

-- one list too many behind so many, or too many turns with it
abbrev pub past_lists : ℕ → ℕ → Lexeme → Option RefusalKind
past_lists turns before t =
    if nat_le (suc before) most_callers && nat_le (suc before * turns) most_turns then None else Some TooMany

-- the word of a list behind so many, for its line
abbrev pub IsListWord : ℕ → ℕ → Lang ℕ
IsListWord turns before = Made (IsOne is_list (past_lists turns before)) (λ t. t.line)

-- the list of a caller, behind those of so many
abbrev pub IsCallerList : ℕ → ℕ → ℕ → Lang (List ℕ)
IsCallerList bots turns before = Then (IsListWord turns before) (λ line. AreIds bots)

abbrev pub ListsFrom : ℕ → ℕ → ℕ → Lang (List (List ℕ))
ListsFrom bots turns before = Repeated (IsCallerList bots turns) one_more before

-- ---- the section

abbrev pub lists_of : ℕ → List (List ℕ) → CallerLists
lists_of turns ids = record { turns = turns; ids = ids }

abbrev pub IsTurnCount : Lang ℕ
IsTurnCount = Then (IsWord (codes "turns")) (λ line. IsNumeral (too_large most_turns TooMany))

-- the lists, of ids of so many amoebots
abbrev pub IsLists : ℕ → Lang CallerLists
IsLists bots =
    Then (IsWord (codes "lists"))
    (λ line. Then IsTurnCount (λ turns.
    Closed (Made (ListsFrom bots turns 0) (λ ids. lists_of turns ids)) is_end))
