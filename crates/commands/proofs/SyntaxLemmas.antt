-- What `clap` makes of words that do not begin with `-`.
use Rattle.std.proofs.Common.{◌≡◌, ℕ, List, [], ◌∷◌, ◌++◌, true, false, Option, Some, None, codes, is_some, refl, ap, ap₂, sym, ◌∙◌}
use Rattle.std.specs.List.{find, fold}
use Rattle.std.specs.Option.{option_map, option_map_or}
use Rattle.std.specs.Str.{bytes_eq}
use Rattle.clap.specs.Lexer.{long_of, short_of}
use Rattle.clap.specs.Walk.{Held, Names, Row, Rule, Step, Text, first_of, Walk, after_step, answers_to, idle, value, arg_by_index, finished, nothing_held, settled, subcommand_met, subcommand_or_other, to_positional, walk, walk_from, walked, word_met}
use Rattle.clap.specs.Simple.{App, Shape, built, filled, with_index, entered, is_simple, label_of, names_of, new_shape, rows_at, subcommand_of}
use Rattle.clap.specs.Kinds.{Kinds, or_else}
use Rattle.clap.specs.declared.error.kind.ErrorKind.TheVariants.{InvalidSubcommand, UnknownArgument}
use Rattle.clap.specs.Faults.{check_fault, positional_fault, defaults_fault, entered_fault, fault_of, is_simple_and_free, level_fault, other_fault, settle_fault, step_fault, stray_fault, turn_fault, walk_fault, word_fault}
use Rattle.clap.proofs.OnLiterals.{clap_on_literals}
use Rattle.clap.proofs.WalkLemmas.{walk_stopped}
use Rattle.commands.specs.Syntax.{begins_with_dash, needed, words_syntax}

pub is_simple_syntax : is_simple words_syntax ≡ true
unfolding clap_on_literals
is_simple_syntax = refl

pub is_free_syntax : is_simple_and_free words_syntax ≡ true
unfolding clap_on_literals
is_free_syntax = refl

-- ---- a word that does not begin with `-` is no flag

no_end : (word : Text) → begins_with_dash word ≡ false → bytes_eq word (45 ∷ 45 ∷ []) ≡ false
no_end [] plain = refl
no_end (c ∷ cs) plain = rw plain refl

no_long : (word : Text) → begins_with_dash word ≡ false → long_of word ≡ None
no_long [] plain = refl
no_long (c ∷ cs) plain = rw plain refl

no_short : (word : Text) → begins_with_dash word ≡ false → short_of word ≡ None
no_short [] plain = refl
no_short (c ∷ cs) plain = rw plain refl

-- the walk between two words of which nothing waits for a value
abbrev at_rest : Held → ℕ → Walk
at_rest h position = record { held = h; waiting = idle; position = position; is_trailing = false; stopped = None }

module _ (s : Shape) (names : Names) (word : Text) (plain : begins_with_dash word ≡ false) (none : subcommand_met names idle word ≡ None) (h : Held) (position : ℕ) where
  is_value : word_met s.rules names false idle position word h ≡ (h, value)
  is_value = ap (λ o. subcommand_or_other s.rules o idle position word h) none ∙ rw (no_end word plain, no_long word plain, no_short word plain) refl

  no_fault : word_fault s names false idle word h ≡ []
  no_fault = ap (λ o. other_fault s o word h) none ∙ rw (no_end word plain, no_long word plain, no_short word plain) refl

  pub turn_by_place : turn_fault s names (at_rest h position) word ≡ step_fault s position h value
  turn_by_place = ap₂ (λ (ks : Kinds) (met : Held × Step). or_else ks (step_fault s position met.0 met.1)) no_fault is_value

  pub walked_by_place : walked s.rules names (at_rest h position) word ≡ to_positional s.rules (arg_by_index s.rules position) word (at_rest h position) h
  unfolding walked
  walked_by_place = ap (λ (met : Held × Step). after_step s.rules word (at_rest h position) met.0 met.1) is_value

-- ---- a subcommand, and what stands after it

-- after a subcommand no word of the walk is at fault
stopped_well : (s : Shape) (names : Names) (w : Walk) (name : Text) (seen words : List Text) → walk_fault s names (record w { stopped = Some (name, seen) }) words ≡ []
unfolding walk_fault walked
stopped_well s names w name seen [] = refl
stopped_well s names w name seen (x ∷ words) = stopped_well s names w name (seen ++ x ∷ []) words

-- what a walk of the whole words comes to
abbrev fault_behind : App → Walk → Kinds
fault_behind a w =
    or_else (entered_fault a w.stopped) (or_else (settle_fault a.top.rules a.top.args_override_self w.held)
    (or_else (defaults_fault (settled a.top.rules w.held).rows a.top.rules) (check_fault a.top (finished a.top.rules w.held) (is_some (entered a w.stopped)))))

abbrev stopped_at : Text → List Text → Walk
stopped_at name rest = record (walk_from nothing_held) { stopped = Some (name, rest) }

-- a subcommand as it is built
abbrev pub leaf : Text → List Rule → Shape
leaf name rules = record (new_shape name) {
  rules = rules;
  no_binary_name = true;
  disable_help_flag = true;
  disable_help_subcommand = true;
  disable_version_flag = true;
  is_built = true;
}

abbrev pub top : Shape
top = (built words_syntax).top

abbrev pub names : Names
names = names_of (built words_syntax)

-- the word names the subcommand s
module _ (name : Text) (s : Shape) (is_met : subcommand_met names idle name ≡ Some name) (no_help : bytes_eq name (codes "help") ≡ false)
    (is_sub : find (λ (t : Shape). answers_to name (label_of t)) (built words_syntax).subs ≡ Some s) (rest : List Text) where
  -- what the walk makes of the name, by the subcommand that it is taken for
  abbrev step_by : Option Text → Held × Step
  step_by o = subcommand_or_other top.rules o idle 1 name nothing_held

  abbrev after_name : Option Text → Walk
  after_name o = after_step top.rules name (walk_from nothing_held) (step_by o).0 (step_by o).1

  stops : walk top.rules names nothing_held (name ∷ rest) ≡ stopped_at name rest
  unfolding walked
  stops =
      ap (λ (o : Option Text). fold (walked top.rules names) (after_name o) rest) is_met
      ∙ sym (walk_stopped top.rules names (walk_from nothing_held) name [] rest)

  no_request : other_fault top (Some name) name nothing_held ≡ []
  no_request = rw no_help refl

  begins_well : walk_fault top names (walk_from nothing_held) (name ∷ rest) ≡ []
  unfolding walk_fault walked
  begins_well =
      ap₂ or_else
      (ap (λ (o : Option Text). or_else (other_fault top o name nothing_held) (step_fault top 1 (step_by o).0 (step_by o).1)) is_met ∙ ap (λ ks. or_else ks []) no_request)
      (ap (λ (o : Option Text). walk_fault top names (after_name o) rest) is_met ∙ stopped_well top names (walk_from nothing_held) name [] rest)

  entered_is : entered (built words_syntax) (Some (name, rest)) ≡ Some (rows_at s rest)
  entered_is = ap (option_map (λ (t : Shape). rows_at t rest)) is_sub

  pub fault_in : fault_of words_syntax (name ∷ rest) ≡ or_else (level_fault s [] nothing_held rest false []) []
  unfolding defaults_fault
  fault_in =
      ap₂ (λ (ks : Kinds) (w : Walk). or_else ks (fault_behind (built words_syntax) w)) begins_well stops
      ∙ ap₂ (λ (ks : Kinds) (o : Option (Text × List Row)). or_else ks (check_fault top [] (is_some o))) (ap (λ o. option_map_or (λ (t : Shape). level_fault t [] nothing_held rest false []) o []) is_sub) entered_is

  pub read_in : subcommand_of words_syntax (name ∷ rest) ≡ Some (rows_at s rest)
  read_in = ap (λ (w : Walk). entered (built words_syntax) w.stopped) stops ∙ entered_is

-- ---- a subcommand on the words behind it

-- what the words of a subcommand come to, behind its walk
abbrev leaf_fault_behind : Shape → Walk → Kinds
leaf_fault_behind s w =
    or_else (settle_fault s.rules s.args_override_self w.held) (or_else (defaults_fault (settled s.rules w.held).rows s.rules) (check_fault s (finished s.rules w.held) false))

-- a word for which there is no place is at fault
stray : (s : Shape) (names : Names) (word : Text) (plain : begins_with_dash word ≡ false) (none : subcommand_met names idle word ≡ None) (h : Held) (position : ℕ) (words : List Text)
    → arg_by_index s.rules position ≡ None → walk_fault s names (at_rest h position) (word ∷ words) ≡ or_else (stray_fault s) (walk_fault s names (walked s.rules names (at_rest h position) word) words)
unfolding walk_fault
stray s names word plain none h position words no_place =
    ap (λ ks. or_else ks (walk_fault s names (walked s.rules names (at_rest h position) word) words))
    (turn_by_place s names word plain none h position ∙ ap (λ (o : Option Rule). option_map_or (λ a. positional_fault s.rules s.args_override_self a h) o (stray_fault s)) no_place)

-- an argument as it is built
abbrev pub argument : Text → Rule
argument id = with_index 1 (filled (needed id))

module _ (name word : Text) (plain : begins_with_dash word ≡ false) (words : List Text) where
  pub none_wanted : level_fault (leaf name []) [] nothing_held (word ∷ words) false [] ≡ UnknownArgument ∷ []
  none_wanted =
      ap (λ ks. or_else ks (leaf_fault_behind (leaf name []) (walk [] [] nothing_held (word ∷ words))))
      (stray (leaf name []) [] word plain refl nothing_held 1 words refl)

module _ (name id word : Text) (plain : begins_with_dash word ≡ false) (same : bytes_eq id id ≡ true) where
  abbrev one : Shape
  one = leaf name (argument id ∷ [])

  abbrev after_one : Walk
  after_one = to_positional one.rules (Some (argument id)) word (walk_from nothing_held) nothing_held

  one_walked : walked one.rules [] (walk_from nothing_held) word ≡ after_one
  one_walked = walked_by_place one [] word plain refl nothing_held 1

  one_begun : turn_fault one [] (walk_from nothing_held) word ≡ []
  one_begun = turn_by_place one [] word plain refl nothing_held 1

  one_well : walk_fault one [] (walk_from nothing_held) (word ∷ []) ≡ []
  unfolding walk_fault
  one_well = ap (λ (ks : Kinds). or_else ks []) one_begun

  one_ends : leaf_fault_behind one after_one ≡ []
  unfolding defaults_fault
  one_ends = simp same refl

  pub one_wanted : level_fault one [] nothing_held (word ∷ []) false [] ≡ []
  one_wanted = ap₂ (λ (ks : Kinds) (w : Walk). or_else ks (leaf_fault_behind one w)) one_well one_walked ∙ one_ends

  one_found : first_of id (finished one.rules after_one.held) ≡ Some word
  one_found = simp same refl

  pub one_read : first_of id (rows_at one (word ∷ [])).1 ≡ Some word
  one_read = ap (λ (w : Walk). first_of id (finished one.rules w.held)) one_walked ∙ one_found

  pub one_too_many : (second : Text) (words : List Text) → begins_with_dash second ≡ false
      → level_fault one [] nothing_held (word ∷ second ∷ words) false [] ≡ UnknownArgument ∷ []
  unfolding walk_fault
  one_too_many second words plain_too =
      ap (λ (ks : Kinds). or_else ks (leaf_fault_behind one (walk one.rules [] nothing_held (word ∷ second ∷ words)))) walk_is
    where
      walk_is : walk_fault one [] (walk_from nothing_held) (word ∷ second ∷ words) ≡ UnknownArgument ∷ []
      walk_is =
          ap₂ (λ (ks : Kinds) (w : Walk). or_else ks (walk_fault one [] w (second ∷ words))) one_begun one_walked
          ∙ stray one [] second plain_too refl after_one.held 2 words refl

-- a first word that names no subcommand
pub strange_word : (word : Text) (plain : begins_with_dash word ≡ false) → subcommand_met names idle word ≡ None → (words : List Text)
    → fault_of words_syntax (word ∷ words) ≡ UnknownArgument ∷ InvalidSubcommand ∷ []
strange_word word plain none words =
    ap (λ ks. or_else ks (fault_behind (built words_syntax) (walk top.rules names nothing_held (word ∷ words))))
    (stray top names word plain none nothing_held 1 words refl)
