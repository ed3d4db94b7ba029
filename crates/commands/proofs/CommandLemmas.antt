-- What `clap` makes of words that do not begin with `-` is the command that they are.
use Rattle.std.proofs.Common.{◌≡◌, ◌≢◌, inl, inr, List, [], ◌∷◌, Bool, true, false, Option, Some, None, codes, eqb-true, true≢false, refl, ap, sym, subst, ◌∙◌}
use Rattle.std.specs.Prelude.{◌==◌, ◌++◌, if◌then◌else◌, map, not, option_and_then, option_map}
use Rattle.std.specs.List.{find, list_all, list_any}
use Rattle.std.specs.Char.{is_ascii_digit}
use Rattle.std.specs.Str.{bytes_eq}
use Rattle.std.proofs.lemmas.Bool.{and_parts, cases_Bool, false≢true, or_parts}
use Rattle.clap.specs.Walk.{Row, Text, answers_to, first_of, idle, is_empty, nothing_held, subcommand_met}
use Rattle.clap.specs.Simple.{App, HasMatchesOf, Shape, built, is_simple, label_of, rows_at, subcommand_of, subcommand_rows_of}
use Rattle.clap.specs.Kinds.{HasKind, IsAmong, Kinds, or_else}
use Rattle.clap.specs.Values.{kind_of}
use Rattle.clap.specs.declared.error.Error.{Error}
use Rattle.clap.specs.declared.error.kind.ErrorKind.TheVariants.{OutOfMemory}
use Rattle.clap.specs.declared.parser.matches.ArgMatches.{ArgMatches}
use Rattle.clap.specs.Faults.{fault_of, is_simple_and_free, level_fault}
use Rattle.clap.proofs.OnLiterals.{clap_on_literals}
use Rattle.shipped_programs.specs.declared.shipped.Shipped.TheVariants.{Hexagon, Erosion, Line}
use Rattle.commands.specs.declared.words.Command.{Command}
use Rattle.commands.specs.declared.words.DocumentCommand.{DocumentCommand}
use Rattle.commands.specs.declared.words.Command.TheVariants.{Document, Sample}
use Rattle.commands.specs.Words.{AreWordsOf, command_of, document_in, documents, is_one_word, of_two_words, numbered_by, rewind_to, shipped, show_in, word_of}
use Rattle.commands.specs.Syntax.{begins_with_dash, of_subcommand, words_syntax}
use Rattle.commands.proofs.CommandRows.{row_is}
use Rattle.commands.proofs.WordsLemmas.{by_choice, same_word, command_is_its_words, tested_alone}
use Rattle.commands.proofs.SyntaxLemmas.{argument, fault_in, is_free_syntax, is_simple_syntax, leaf, names, none_wanted, one_read, one_too_many, one_wanted, read_in, strange_word}

-- a parse fails by no fault and gives the command, or it fails and they are no command
pub data Judged (words : List Text) : Type 0 where
  taken : fault_of words_syntax words ≡ [] → of_subcommand (subcommand_of words_syntax words) ≡ command_of words → Judged words
  refused : is_empty (fault_of words_syntax words) ≡ false → command_of words ≡ None → Judged words

-- ---- which subcommand a word names

pub data First (word : Text) : Type 0 where
  document : (c : DocumentCommand) → is_one_word c ≡ true → word ≡ word_of c → First word
  show : word ≡ codes "show" → First word
  sample : word ≡ codes "sample" → First word
  rewind : word ≡ codes "rewind" → First word
  other : subcommand_met names idle word ≡ None → ((words : List Text) → command_of (word ∷ words) ≡ None) → First word

-- a word is that of one of some commands, or of none
data IsNamed (cs : List DocumentCommand) (word : Text) : Type 0 where
  here : (c : DocumentCommand) → is_one_word c ≡ true → word ≡ word_of c → IsNamed cs word
  nowhere : document_in cs word ≡ None → IsNamed cs word

is_named : (cs : List DocumentCommand) → list_all is_one_word cs ≡ true → (word : Text) → IsNamed cs word
is_named [] ones word = nowhere refl
is_named (d ∷ cs) ones word =
    let parts = and_parts (is_one_word d) (list_all is_one_word cs) ones in
    elim (cases_Bool (bytes_eq (word_of d) word)) [
      | inl is ↦ here d parts.0 (sym (same_word (word_of d) word is))
      | inr passed ↦ elim (is_named cs parts.1 word) [
        | here c one is ↦ here c one is
        | nowhere none ↦ nowhere (ap (λ (b : Bool). if b then Some (Document d) else document_in cs word) passed ∙ none)
      ]
    ]

-- ---- the subcommands

-- that of a command whose word stands alone, and those with an argument
abbrev leaf_of : DocumentCommand → Shape
leaf_of c = leaf (word_of c) []

abbrev with_arguments : List Shape
with_arguments = leaf (codes "show") (argument (codes "NAME") ∷ []) ∷ leaf (codes "sample") (argument (codes "NUMBER") ∷ []) ∷ leaf (codes "rewind") (argument (codes "NUMBER") ∷ []) ∷ []

subs_are : (built words_syntax).subs ≡ map leaf_of documents ++ with_arguments
subs_are = refl

-- the first of some that answers to a word
abbrev answering : Text → List Shape → Option Shape
answering word subs = find (λ (s : Shape). answers_to word (label_of s)) subs

answering_label : (word : Text) (subs : List Shape) → find (answers_to word) (map label_of subs) ≡ option_map label_of (answering word subs)
answering_label word [] = refl
answering_label word (s ∷ subs) = elim (cases_Bool (answers_to word (label_of s))) [
  | inl is ↦ rw is refl
  | inr is ↦ rw is (answering_label word subs)
]

-- the word of a command finds that command's
one_answers : (cs : List DocumentCommand) (others : List Shape) (word : Text) (c : DocumentCommand) → document_in cs word ≡ Some (Document c) → answering word (map leaf_of cs ++ others) ≡ Some (leaf_of c)
one_answers [] others word c e = absurd (cc)
one_answers (d ∷ cs) others word c e = elim (by_choice (bytes_eq (word_of d) word) (Some (Document d)) (document_in cs word) (Document c) e) [
  | inl by ↦ let same : d ≡ c = cc in rw by.0 (ap (λ (x : DocumentCommand). Some (leaf_of x)) same)
  | inr by ↦ rw by.0 (one_answers cs others word c by.1)
]

-- and a word that is none of theirs finds another subcommand, or none
others_answer : (cs : List DocumentCommand) (others : List Shape) (word : Text) → document_in cs word ≡ None → answering word (map leaf_of cs ++ others) ≡ answering word others
others_answer [] others word none = refl
others_answer (d ∷ cs) others word none = elim (cases_Bool (bytes_eq (word_of d) word)) [
  | inl is ↦ absurd (let some : Some (Document d) ≡ None = sym (ap (λ (b : Bool). if b then Some (Document d) else document_in cs word) is) ∙ none in cc)
  | inr is ↦ rw is (others_answer cs others word (sym (ap (λ (b : Bool). if b then Some (Document d) else document_in cs word) is) ∙ none))
]

-- the name of what is found
met_by : (word : Text) (o : Option Shape) → answering word (built words_syntax).subs ≡ o → subcommand_met names idle word ≡ option_map (λ (s : Shape). s.name) o
met_by word o e = ap (option_map (λ (label : Text × List Text). label.0)) (answering_label word (built words_syntax).subs ∙ ap (option_map label_of) e) ∙ twice o
  where
    twice : (o : Option Shape) → option_map (λ (label : Text × List Text). label.0) (option_map label_of o) ≡ option_map (λ (s : Shape). s.name) o
    twice None = refl
    twice (Some s) = refl

module _ (word : Text) (no_show : bytes_eq (codes "show") word ≡ false) (no_sample : bytes_eq (codes "sample") word ≡ false) (no_rewind : bytes_eq (codes "rewind") word ≡ false) where
  names_none : document_in documents word ≡ None → subcommand_met names idle word ≡ None
  names_none none = met_by word None (ap (answering word) subs_are ∙ others_answer documents with_arguments word none ∙ rw (no_show, no_sample, no_rewind) refl)

  read_alone : (rows : List Row) → of_subcommand (Some (word, rows)) ≡ document_in documents word
  read_alone rows = rw (no_show, no_sample, no_rewind) refl

  none_of_two : (second : Text) → of_two_words word second ≡ None
  unfolding of_two_words
  none_of_two second = rw (no_show, no_sample, no_rewind) refl

  begins_none : document_in documents word ≡ None → (words : List Text) → command_of (word ∷ words) ≡ None
  begins_none none [] = none
  begins_none none (x ∷ []) = none_of_two x
  begins_none none (x ∷ y ∷ words) = refl

first_of_words : (word : Text) → First word
first_of_words word = elim (is_named documents refl word) [
  | here c one is ↦ document c one is
  | nowhere none ↦ elim (cases_Bool (bytes_eq (codes "show") word)) [
    | inl e ↦ show (sym (same_word (codes "show") word e))
    | inr no_show ↦ elim (cases_Bool (bytes_eq (codes "sample") word)) [
      | inl e ↦ sample (sym (same_word (codes "sample") word e))
      | inr no_sample ↦ elim (cases_Bool (bytes_eq (codes "rewind") word)) [
        | inl e ↦ rewind (sym (same_word (codes "rewind") word e))
        | inr no_rewind ↦ other (names_none word no_show no_sample no_rewind none) (begins_none word no_show no_sample no_rewind none)
      ]
    ]
  ]
]

-- ---- by the first word

abbrev fault : List Text → Kinds
fault = fault_of words_syntax

abbrev read : List Text → Option (Text × List Row)
read = subcommand_of words_syntax

not_so : (b : Bool) → not b ≡ true → b ≡ false
not_so true e = absurd (false≢true e)
not_so false e = refl

-- with no words behind it a subcommand without an argument is not at fault
leaf_well : (name : Text) → or_else (level_fault (leaf name []) [] nothing_held [] false []) [] ≡ []
unfolding clap_on_literals
leaf_well name = refl

-- a command whose word stands alone
module _ (c : DocumentCommand) (one : is_one_word c ≡ true) where
  is_other : (test : DocumentCommand → Bool) → list_all (λ (d : DocumentCommand). not (test d)) documents ≡ true → test c ≡ false
  is_other test all = not_so (test c) (tested_alone (λ (d : DocumentCommand). not (test d)) all c one)

  no_dash : begins_with_dash (word_of c) ≡ false
  no_dash = is_other (λ (d : DocumentCommand). begins_with_dash (word_of d)) refl

  no_help : bytes_eq (word_of c) (codes "help") ≡ false
  no_help = is_other (λ (d : DocumentCommand). bytes_eq (word_of d) (codes "help")) refl

  is_no_show : bytes_eq (codes "show") (word_of c) ≡ false
  is_no_show = is_other (λ (d : DocumentCommand). bytes_eq (codes "show") (word_of d)) refl

  is_no_sample : bytes_eq (codes "sample") (word_of c) ≡ false
  is_no_sample = is_other (λ (d : DocumentCommand). bytes_eq (codes "sample") (word_of d)) refl

  is_no_rewind : bytes_eq (codes "rewind") (word_of c) ≡ false
  is_no_rewind = is_other (λ (d : DocumentCommand). bytes_eq (codes "rewind") (word_of d)) refl

  its_sub : answering (word_of c) (built words_syntax).subs ≡ Some (leaf_of c)
  its_sub = ap (answering (word_of c)) subs_are ∙ one_answers documents with_arguments (word_of c) c ((row_is c).own one)

  its_name : subcommand_met names idle (word_of c) ≡ Some (word_of c)
  its_name = met_by (word_of c) (Some (leaf_of c)) its_sub

  document_in_words : (rest : List Text) → fault (word_of c ∷ rest) ≡ or_else (level_fault (leaf (word_of c) []) [] nothing_held rest false []) []
  document_in_words rest = fault_in (word_of c) (leaf_of c) its_name no_help its_sub rest

  document_read : of_subcommand (read (word_of c ∷ [])) ≡ command_of (word_of c ∷ [])
  document_read =
      ap of_subcommand (read_in (word_of c) (leaf_of c) its_name no_help its_sub [])
      ∙ read_alone (word_of c) is_no_show is_no_sample is_no_rewind (rows_at (leaf_of c) []).1

  document_well : fault (word_of c ∷ []) ≡ []
  document_well = document_in_words [] ∙ leaf_well (word_of c)

  document_alone : (x : Text) (words : List Text) → command_of (word_of c ∷ x ∷ words) ≡ None
  document_alone x [] = none_of_two (word_of c) is_no_show is_no_sample is_no_rewind x
  document_alone x (y ∷ words) = refl

plain_first : (x : Text) (words : List Text) → list_any begins_with_dash (x ∷ words) ≡ false → begins_with_dash x ≡ false
plain_first x words e = (or_parts (begins_with_dash x) (list_any begins_with_dash words) e).0

judged_document : (c : DocumentCommand) → is_one_word c ≡ true → (rest : List Text) → list_any begins_with_dash rest ≡ false → Judged (word_of c ∷ rest)
judged_document c one [] plain = taken (document_well c one) (document_read c one)
judged_document c one (x ∷ words) plain =
    refused (ap is_empty (document_in_words c one (x ∷ words) ∙ ap (λ ks. or_else ks []) (none_wanted (word_of c) x (plain_first x words plain) words))) (document_alone c one x words)

-- a subcommand with one argument, whose command is found by `gives`
module _ (name id : Text) (gives : Text → Option Command) (is_met : subcommand_met names idle name ≡ Some name) (no_help : bytes_eq name (codes "help") ≡ false)
    (is_sub : find (λ (s : Shape). answers_to name (label_of s)) (built words_syntax).subs ≡ Some (leaf name (argument id ∷ []))) (same : bytes_eq id id ≡ true)
    (by_rows : (rows : List Row) → of_subcommand (Some (name, rows)) ≡ option_and_then gives (first_of id rows)) (by_words : (x : Text) → command_of (name ∷ x ∷ []) ≡ gives x)
    (alone : Judged (name ∷ [])) where
  faults : (rest : List Text) → fault (name ∷ rest) ≡ or_else (level_fault (leaf name (argument id ∷ [])) [] nothing_held rest false []) []
  faults rest = fault_in name (leaf name (argument id ∷ [])) is_met no_help is_sub rest

  judged_with : (rest : List Text) → list_any begins_with_dash rest ≡ false → Judged (name ∷ rest)
  judged_with [] plain = alone
  judged_with (x ∷ []) plain =
      let first = plain_first x [] plain in
      taken (faults (x ∷ []) ∙ ap (λ ks. or_else ks []) (one_wanted name id x first same))
      (ap of_subcommand (read_in name (leaf name (argument id ∷ [])) is_met no_help is_sub (x ∷ []))
      ∙ by_rows (rows_at (leaf name (argument id ∷ [])) (x ∷ [])).1 ∙ ap (option_and_then gives) (one_read name id x first same) ∙ sym (by_words x))
  judged_with (x ∷ y ∷ words) plain =
      let both = or_parts (begins_with_dash x) (list_any begins_with_dash (y ∷ words)) plain in
      refused (ap is_empty (faults (x ∷ y ∷ words) ∙ ap (λ ks. or_else ks []) (one_too_many name id x both.0 same y words (plain_first y words both.1)))) refl

judged_show : (rest : List Text) → list_any begins_with_dash rest ≡ false → Judged (codes "show" ∷ rest)
unfolding clap_on_literals of_two_words
judged_show = judged_with (codes "show") (codes "NAME") (show_in shipped) refl refl refl refl (λ rows. refl) (λ x. refl) (refused refl refl)

judged_sample : (rest : List Text) → list_any begins_with_dash rest ≡ false → Judged (codes "sample" ∷ rest)
unfolding clap_on_literals of_two_words
judged_sample = judged_with (codes "sample") (codes "NUMBER") (numbered_by Sample) refl refl refl refl (λ rows. refl) (λ x. refl) (refused refl refl)

judged_rewind : (rest : List Text) → list_any begins_with_dash rest ≡ false → Judged (codes "rewind" ∷ rest)
unfolding clap_on_literals of_two_words
judged_rewind = judged_with (codes "rewind") (codes "NUMBER") (numbered_by rewind_to) refl refl refl refl (λ rows. refl) (λ x. refl) (refused refl refl)

judged_nothing : Judged []
unfolding clap_on_literals
judged_nothing = refused refl refl

pub judged : (words : List Text) → list_any begins_with_dash words ≡ false → Judged words
judged [] plain = judged_nothing
judged (word ∷ rest) plain = elim (first_of_words word) [
  | document c one is ↦ subst (λ (w : Text). Judged (w ∷ rest)) (sym is) (judged_document c one rest parts.1)
  | show is ↦ subst (λ (w : Text). Judged (w ∷ rest)) (sym is) (judged_show rest parts.1)
  | sample is ↦ subst (λ (w : Text). Judged (w ∷ rest)) (sym is) (judged_sample rest parts.1)
  | rewind is ↦ subst (λ (w : Text). Judged (w ∷ rest)) (sym is) (judged_rewind rest parts.1)
  | other none is_none ↦ refused (ap is_empty (strange_word word parts.0 none rest)) (is_none rest)
]
  where
    parts : (begins_with_dash word ≡ false) × (list_any begins_with_dash rest ≡ false)
    parts = or_parts (begins_with_dash word) (list_any begins_with_dash rest) plain

-- ---- words with one that begins with `-`

no_digit : (digits : Text) → list_all is_ascii_digit digits ≡ true → begins_with_dash digits ≡ false
no_digit [] e = refl
no_digit (d ∷ digits) e = by (d == 45) refl
  where
    by : (b : Bool) → (d == 45) ≡ b → b ≡ false
    by true is = absurd (true≢false (sym (and_parts (is_ascii_digit d) (list_all is_ascii_digit digits) e).0 ∙ ap is_ascii_digit (eqb-true d 45 is)))
    by false is = refl

-- no word of a command begins so
words_plain : (c : Command) (words : List Text) → AreWordsOf c words → list_any begins_with_dash words ≡ false
words_plain c words (AreWordsOf.document d one) = rw (no_dash d one) refl
words_plain c words (AreWordsOf.rewind digits place s) = rw (no_digit digits s.all) refl
words_plain c words (AreWordsOf.show Hexagon) = refl
words_plain c words (AreWordsOf.show Erosion) = refl
words_plain c words (AreWordsOf.show Line) = refl
words_plain c words (AreWordsOf.sample digits seed s) = rw (no_digit digits s.all) refl

pub dash_is_none : (words : List Text) → list_any begins_with_dash words ≡ true → command_of words ≡ None
dash_is_none words e = by (command_of words) refl
  where
    by : (o : Option Command) → command_of words ≡ o → o ≡ None
    by None is = refl
    by (Some c) is = absurd (true≢false (sym e ∙ words_plain c words ((command_is_its_words words c).0 is)))

-- ---- what a parse by the syntax says

module _ (a : App) (is : a ≡ words_syntax) (words : List Text) (plain : list_any begins_with_dash words ≡ false) where
  pub is_command : (m : ArgMatches) → (is_simple_and_free a ≡ true → fault_of a words ≡ []) → HasMatchesOf a words m → of_subcommand (subcommand_rows_of m) ≡ command_of words
  is_command m well has = elim (judged words plain) [
    | taken none same ↦ ap of_subcommand ((has (ap is_simple is ∙ is_simple_syntax)).1 ∙ ap (λ (x : App). subcommand_of x words) is) ∙ same
    | refused some none ↦ absurd (true≢false (sym (ap is_empty (sym (ap (λ (x : App). fault_of x words) is) ∙ well (ap is_simple_and_free is ∙ is_free_syntax))) ∙ some))
  ]

  pub is_none : (e : Error) → (is_simple_and_free a ≡ true → HasKind (fault_of a words) e) → kind_of e ≢ OutOfMemory → command_of words ≡ None
  is_none e fails not_memory = elim (judged words plain) [
    | taken none same ↦ elim (fails (ap is_simple_and_free is ∙ is_free_syntax)) [
      | inl memory ↦ absurd (not_memory memory)
      | inr among ↦ absurd (subst (IsAmong (kind_of e)) (ap (λ (x : App). fault_of x words) is ∙ none) among)
    ]
    | refused some none ↦ none
  ]
