-- The words of the commands.
use Rattle.std.proofs.Common.{◌≡◌, ◌⊎◌, inl, inr, ℕ, List, [], ◌∷◌, Bool, true, false, Option, Some, None, codes, refl, ap, sym, subst, ◌∙◌, ◌<◌, length, drop, suc, get_or, drop-cons}
use Rattle.std.specs.Prelude.{if◌then◌else◌, option_and_then}
use Rattle.std.specs.Option.{option_map}
use Rattle.std.specs.List.{list_all}
use Rattle.std.specs.Str.{bytes_eq}
use Rattle.std.proofs.lemmas.Slice.Eq.{bytes_eq-Decides}
use Rattle.std.proofs.lemmas.Bool.{and_parts, cases_Bool}
use Rattle.std.specs.Str.Parse.{digits_value}
use Rattle.shipped_programs.specs.declared.shipped.Shipped.{Shipped}
use Rattle.shipped_programs.specs.declared.shipped.Shipped.TheVariants.{Hexagon, Erosion, Line}
use Rattle.shipped_programs.specs.Shipped.{shipped_name}
use Rattle.commands.specs.declared.words.Command.{Command}
use Rattle.commands.specs.declared.words.Command.TheVariants.{Document, Show, Sample}
use Rattle.commands.specs.declared.words.DocumentCommand.{DocumentCommand}
use Rattle.commands.specs.Words.{AreWordsOf, IsNumberWord, word_of, is_one_word, document_in, documents, show_in, shipped, is_number_word, number_of, numbered_by, rewind_to, of_two_words, command_of}
use Rattle.commands.specs.WordLaws.{CommandIsItsWords, SmallWords}
use Rattle.commands.proofs.CommandRows.{row_is}
use Rattle.commands.proofs.NumberWords.{decides_number, is_number, is_no_number}

pub same_word : (one two : List ℕ) → bytes_eq one two ≡ true → one ≡ two
same_word one two = (bytes_eq-Decides one two).0

pub other_word : (one two : List ℕ) → (two ≡ one → ⊥) → bytes_eq one two ≡ false
other_word one two other = by (bytes_eq one two) refl
  where
    by : (b : Bool) → bytes_eq one two ≡ b → b ≡ false
    by true is = absurd (other (sym (same_word one two is)))
    by false is = refl

-- what a choice gives is what one of its sides gives
module _ (b : Bool) (one other : Option Command) (c : Command) where
  pub by_choice : (if b then one else other) ≡ Some c → ((b ≡ true) × (one ≡ Some c)) ⊎ ((b ≡ false) × (other ≡ Some c))
  by_choice e = by b refl
    where
      by : (t : Bool) → b ≡ t → ((b ≡ true) × (one ≡ Some c)) ⊎ ((b ≡ false) × (other ≡ Some c))
      by true is = inl (is, sym (ap (λ (x : Bool). if x then one else other) is) ∙ e)
      by false is = inr (is, sym (ap (λ (x : Bool). if x then one else other) is) ∙ e)

-- what is tested of each of some commands holds of the one that a word names
tested : (test : DocumentCommand → Bool) (cs : List DocumentCommand) → list_all test cs ≡ true → (word : List ℕ) (c : DocumentCommand) → document_in cs word ≡ Some (Document c) → test c ≡ true
tested test [] all word c e = absurd (cc)
tested test (d ∷ cs) all word c e =
    let parts = and_parts (test d) (list_all test cs) all in
    elim (by_choice (bytes_eq (word_of d) word) (Some (Document d)) (document_in cs word) (Document c) e) [
      | inl by ↦ let same : d ≡ c = cc in subst (λ (x : DocumentCommand). test x ≡ true) same parts.0
      | inr by ↦ tested test cs parts.1 word c by.1
    ]

-- so it holds of each command whose word stands alone
pub tested_alone : (test : DocumentCommand → Bool) → list_all test documents ≡ true → (c : DocumentCommand) → is_one_word c ≡ true → test c ≡ true
tested_alone test all c one = tested test documents all (word_of c) c ((row_is c).own one)

document_named : (cs : List DocumentCommand) → list_all is_one_word cs ≡ true → (word : List ℕ) (c : Command) → document_in cs word ≡ Some c → AreWordsOf c (word ∷ [])
document_named [] ones word c e = absurd (cc)
document_named (d ∷ cs) ones word c e =
    let parts = and_parts (is_one_word d) (list_all is_one_word cs) ones in
    elim (by_choice (bytes_eq (word_of d) word) (Some (Document d)) (document_in cs word) c e) [
      | inl by ↦ let one : Document d ≡ c = cc in subst (λ k. AreWordsOf k (word ∷ [])) one (subst (λ w. AreWordsOf (Document d) (w ∷ [])) (same_word (word_of d) word by.0) (AreWordsOf.document d parts.0))
      | inr by ↦ document_named cs parts.1 word c by.1
    ]

-- a command with another word is passed over
pub passed_over : (cs : List DocumentCommand) (i j : ℕ) (d : DocumentCommand) (word : List ℕ) → j ≡ suc i → i < length cs → bytes_eq (word_of (get_or cs i d)) word ≡ false → document_in (drop i cs) word ≡ document_in (drop j cs) word
passed_over cs i j d word next below other =
    ap (λ (ds : List DocumentCommand). document_in ds word) (drop-cons cs i d below)
    ∙ ap (λ (b : Bool). if b then Some (Document (get_or cs i d)) else document_in (drop (suc i) cs) word) other
    ∙ ap (λ (n : ℕ). document_in (drop n cs) word) (sym next)

show_named : (programs : List Shipped) (name : List ℕ) (c : Command) → show_in programs name ≡ Some c → AreWordsOf c (codes "show" ∷ name ∷ [])
show_named [] name c e = absurd (cc)
show_named (p ∷ programs) name c e = elim (by_choice (bytes_eq (shipped_name p) name) (Some (Show p)) (show_in programs name) c e) [
  | inl by ↦ let one : Show p ≡ c = cc in subst (λ k. AreWordsOf k (codes "show" ∷ name ∷ [])) one (subst (λ w. AreWordsOf (Show p) (codes "show" ∷ w ∷ [])) (same_word (shipped_name p) name by.0) (AreWordsOf.show p))
  | inr by ↦ show_named programs name c by.1
]

-- a first word and a number are the words of a command for each number
module _ (first : List ℕ) (command : ℕ → Command) (are : (digits : List ℕ) (number : ℕ) → IsNumberWord digits number → AreWordsOf (command number) (first ∷ digits ∷ [])) where
  number_named : (digits : List ℕ) (c : Command) → numbered_by command digits ≡ Some c → AreWordsOf c (first ∷ digits ∷ [])
  number_named digits c e = elim (cases_Bool (is_number_word digits)) [
    | inl is ↦
        let both : Some (command (digits_value 10 digits)) ≡ Some c = sym (ap (option_map command) (is_number digits is)) ∙ e in
        let one : command (digits_value 10 digits) ≡ c = cc in
        subst (λ k. AreWordsOf k (first ∷ digits ∷ [])) one (are digits (digits_value 10 digits) ((decides_number digits).0 is))
    | inr is ↦ absurd (let none : None ≡ Some c = sym (ap (option_map command) (is_no_number digits is)) ∙ e in cc)
  ]

two_named : (word other : List ℕ) (c : Command) → of_two_words word other ≡ Some c → AreWordsOf c (word ∷ other ∷ [])
unfolding of_two_words
two_named word other c e = elim (by_choice (bytes_eq (codes "show") word) (show_in shipped other) (if bytes_eq (codes "sample") word then numbered_by Sample other else if bytes_eq (codes "rewind") word then numbered_by rewind_to other else None) c e) [
  | inl by ↦ subst (λ w. AreWordsOf c (w ∷ other ∷ [])) (same_word (codes "show") word by.0) (show_named shipped other c by.1)
  | inr rest ↦ elim (by_choice (bytes_eq (codes "sample") word) (numbered_by Sample other) (if bytes_eq (codes "rewind") word then numbered_by rewind_to other else None) c rest.1) [
    | inl by ↦ subst (λ w. AreWordsOf c (w ∷ other ∷ [])) (same_word (codes "sample") word by.0) (number_named (codes "sample") Sample AreWordsOf.sample other c by.1)
    | inr further ↦ elim (by_choice (bytes_eq (codes "rewind") word) (numbered_by rewind_to other) None c further.1) [
      | inl by ↦ subst (λ w. AreWordsOf c (w ∷ other ∷ [])) (same_word (codes "rewind") word by.0) (number_named (codes "rewind") rewind_to AreWordsOf.rewind other c by.1)
      | inr by ↦ absurd (let none : None ≡ Some c = by.1 in cc)
    ]
  ]
]

are_its_words : (words : List (List ℕ)) (c : Command) → command_of words ≡ Some c → AreWordsOf c words
are_its_words [] c e = absurd (cc)
are_its_words (word ∷ []) c e = document_named documents refl word c e
are_its_words (word ∷ other ∷ []) c e = two_named word other c e
are_its_words (word ∷ other ∷ third ∷ words) c e = absurd (cc)

pub own_name : (program : Shipped) → show_in shipped (shipped_name program) ≡ Some (Show program)
own_name Hexagon = refl
own_name Erosion = refl
own_name Line = refl

own_number : (command : ℕ → Command) (digits : List ℕ) (number : ℕ) → IsNumberWord digits number → numbered_by command digits ≡ Some (command number)
own_number command digits number s =
    let here : IsNumberWord digits (digits_value 10 digits) = subst (IsNumberWord digits) (sym s.value) s in
    ap (option_map command) (is_number digits ((decides_number digits).1 here)) ∙ ap (λ (n : ℕ). Some (command n)) s.value

-- each command has its words
own_words : (c : Command) (words : List (List ℕ)) → AreWordsOf c words → command_of words ≡ Some c
unfolding of_two_words
own_words c words (AreWordsOf.document d one) = (row_is d).own one
own_words c words (AreWordsOf.rewind digits place s) = own_number rewind_to digits place s
own_words c words (AreWordsOf.show program) = own_name program
own_words c words (AreWordsOf.sample digits seed s) = own_number Sample digits seed s

pub command_is_its_words : CommandIsItsWords
command_is_its_words words c = (are_its_words words c, own_words c words)

-- a name that no program has shows nothing
none_in : (programs : List Shipped) (name : List ℕ) → ((program : Shipped) → name ≡ shipped_name program → ⊥) → show_in programs name ≡ None
none_in [] name none = refl
none_in (p ∷ programs) name none = by (bytes_eq (shipped_name p) name) refl (none_in programs name none)
  where
    by : (b : Bool) → bytes_eq (shipped_name p) name ≡ b → show_in programs name ≡ None → show_in (p ∷ programs) name ≡ None
    by true is rest = absurd (none p (sym (same_word (shipped_name p) name is)))
    by false is rest = ap (λ (b : Bool). if b then Some (Show p) else show_in programs name) is ∙ rest

pub none_shown : (name : List ℕ) → ((program : Shipped) → name ≡ shipped_name program → ⊥) → show_in shipped name ≡ None
none_shown name none = none_in shipped name none

-- what the command of a number that was read is
pub by_number : (command : ℕ → Command) (word : Option (List ℕ)) → option_and_then (numbered_by command) word ≡ option_map command (option_and_then number_of word)
by_number command None = refl
by_number command (Some digits) = refl

pub small_words : SmallWords
unfolding of_two_words number_of is_number_word
small_words = record { run = refl; show = refl; sample = refl; greatest = refl; above = refl; eleven = refl; none = refl; signed = refl; tickets = refl; rewind = refl; no_place = refl; nothing = refl; further = refl; other = refl; one_ticket = refl }
