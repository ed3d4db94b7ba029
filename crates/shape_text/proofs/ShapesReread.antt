-- The text of a shape is read as its configuration.
use Rattle.std.proofs.Common.{◌≡◌, ℕ, ℤ, pos, negsuc, zero, suc, ◌+◌, ◌<◌, ◌≤◌, Bool, true, false, List, [], ◌∷◌, ◌++◌, length, map, get_or, Option, Some, None, Ok, codes, refl, sym, ap, subst, ◌∙◌, arith}
use Rattle.std.specs.Prelude.{◌≤ℤ◌, decimal, is_some, slice_index_or}
use Rattle.std.specs.Fmt.{signed_decimal}
use Rattle.std.specs.Option.{IsSome}
use Rattle.std.specs.List.{All}
use Rattle.std.proofs.lemmas.List.{get_or-map, length-map}
use Rattle.std.proofs.lemmas.List.Elements.{All-head, All-tail, All-map}
use Rattle.std.proofs.lemmas.Int.{ints}
use Rattle.tri_lattice.specs.declared.node.Node.{Node}
use Rattle.tri_lattice.specs.Extent.{Extent, IsArea, index_of, node_at}
use Rattle.tri_lattice.proofs.Boxes.{index_of_node_at}
use Rattle.text_tokens.specs.declared.token.TokenKind.TheVariants.{Word}
use Rattle.text_tokens.specs.declared.refusal.Refusal.{Refusal}
use Rattle.text_tokens.specs.Text.{Lexeme}
use Rattle.text_tokens.specs.Lines.{Words}
use Rattle.text_tokens.specs.Grammar.{Lang, Made, Closed, Judged, is_nothing, no_more}
use Rattle.text_tokens.proofs.PrintedTokens.{word_is_token}
use Rattle.amoebot_state.specs.declared.bot.Bot.{Bot}
use Rattle.amoebot_state.specs.Configs.{Config, frame, walled_frame, with_these, IsValid, bot_at}
use Rattle.amoebot_state.specs.Limits.{most_bots, most_walls}
use Rattle.amoebot_state.specs.Refusals.{AreWalls}
use Rattle.amoebot_state.proofs.Faults.{valid_is_faultless}
use Rattle.amoebot_state.proofs.RisingLists.{Rising}
use Rattle.amoebot_state.proofs.Walls.{rising_numbers}
use Rattle.shape_text.specs.Parts.{is_end, outside, one_more, may_have_walls, IsWord}
use Rattle.text_tokens.specs.Inputs.{Says}
use Rattle.shape_text.specs.PartLimits.{size, HasCoordinates, HasLimits}
use Rattle.text_tokens.proofs.LinesLemmas.{Is, Any, Rereads, RereadsLines, rereads_then, rereads_next, rereads_made, rereads_as, rereads_number, rereads_behind, one_rereads, one_found, the_passes, found_judged, found_made, rereads_the, reread_line, lines_by, lines_into, lines_made, lines_then, lines_next, lines_behind_line, lines_nothing, more_of}
use Rattle.text_tokens.proofs.StepsLemmas.{not_past}
use Rattle.text_tokens.proofs.SaysLemmas.{lines_say}
use Rattle.shape_text.proofs.Outside.{inside}
use Rattle.shape_text.proofs.PartsReread.{the_word, an_int, a_node, a_bot}
use Rattle.shape_text.specs.Shapes.{IsSide, an_area_of, IsAreaLine, WrittenWall, written_wall, written_node, IsWallWord, IsWallLine, AreWallLines, WrittenBot, written_bot, written_amoebot, IsBotWord, IsBotLine, AreBots, WrittenShape, written_shape, shape_frame, IsWrittenShape, shape_fault, stands_for, IsShapeUnder}
use Rattle.shape_text.specs.Texts.{area_words, wall_words, wall_lines, bot_line, present, shape_text}
use Rattle.shape_text.specs.Rereading.{IsWritableConfig, ShapesReadBack}
use Rattle.shape_text.proofs.JudgementsLemmas.{faultless_fits}
use Rattle.shape_text.specs.Judgements.{HasWalls}
use Rattle.shape_text.proofs.ShapeLaws.{Filling, Drawing}
use Rattle.shape_text.proofs.WallNumbers.{numbers_of_nodes, nodes_are_walls, few_numbers}
use Rattle.shape_text.proofs.WithinLimits.{has_coordinates, small_values}

-- ---- the area

a_side : (n : ℕ) → 1 ≤ n → n ≤ 128 → Rereads IsSide (Is n) (decimal n ∷ [])
a_side n low high = rereads_number n (omega arith) (outside 1 128) (λ t e. inside 1 128 t (omega (arith, low, e)) (omega (arith, high, e)))

small_start : (z : ℤ) → negsuc 4095 ≤ℤ z → z ≤ℤ pos 4096 → size z ≤ 4096
small_start (pos n) low high = omega (arith, ints)
small_start (negsuc n) low high = omega (arith, ints)

the_area : (a : Extent) → IsArea a → Rereads IsAreaLine (Is a) (area_words a)
the_area a is =
    rereads_next (codes "area" ∷ []) (signed_decimal a.x0 ∷ signed_decimal a.y0 ∷ decimal a.w ∷ decimal a.h ∷ []) (the_word _ _ refl refl (omega arith) refl)
    (rereads_then (signed_decimal a.x0 ∷ []) (signed_decimal a.y0 ∷ decimal a.w ∷ decimal a.h ∷ []) a.x0 (an_int 4096 a.x0 (small_start a.x0 is.x_low is.x_high) (omega arith))
    (rereads_then (signed_decimal a.y0 ∷ []) (decimal a.w ∷ decimal a.h ∷ []) a.y0 (an_int 4096 a.y0 (small_start a.y0 is.y_low is.y_high) (omega arith))
    (rereads_then (decimal a.w ∷ []) (decimal a.h ∷ []) a.w (a_side a.w is.w_low is.w_high)
    (rereads_as (λ h. an_area_of a.x0 a.y0 a.w h) (decimal a.h ∷ []) a.h (a_side a.h is.h_low is.h_high)))))

-- ---- the amoebots

module _ (vars : ℕ) (le : vars ≤ 8) where
  abbrev Its : Bot → WrittenBot → Type 0
  Its b w = written_amoebot w ≡ b

  abbrev These : List Bot → List WrittenBot → Type 0
  These bs ws = map written_amoebot ws ≡ bs

  the_bot_word : (before : ℕ) → before < most_bots → Rereads (IsBotWord before) Any (codes "bot" ∷ [])
  the_bot_word before lt = rereads_made (λ (t : Lexeme). t.line) (codes "bot" ∷ []) (λ t s. tt) (one_rereads (codes "bot") (word_is_token _ _ refl refl (omega arith)) (one_found (codes "bot") (the_passes Word (codes "bot") refl refl) (λ t s. not_past before most_bots lt)))

  the_bot : (before : ℕ) → before < most_bots → (b : Bot) → HasLimits vars b → Rereads (IsBotLine vars before) (Its b) (bot_line vars b)
  the_bot before lt b l =
      let p = a_bot vars le b l in
      rereads_behind (codes "bot" ∷ []) _ (the_bot_word before lt) p.spelled p.printed (λ line x ts s. found_made (λ b. written_bot line b) (λ c e. e) ts (p.read ts s))

  the_bots : (before : ℕ) (bs : List Bot) → before + length bs ≤ most_bots → All (HasLimits vars) bs → RereadsLines (AreBots vars before) (These bs) (map (bot_line vars) bs)
  the_bots before [] fit all = lines_by {A = List WrittenBot} {B = List WrittenBot} {P = AreBots vars before} {Q = AreBots vars before} {R = Is []} {S = These []} {lines = []} (λ ws. ws) (λ xs ws p. p) (λ ws e. ap (map written_amoebot) e) (lines_nothing [] no_more)
  the_bots before (b ∷ bs) fit all =
      let more = the_bots (suc before) bs (omega arith) (All-tail (HasLimits vars) b bs all) in
      let one = reread_line (bot_line vars b) (the_bot before (omega arith) b (All-head (HasLimits vars) b bs all)) in
      lines_into (bot_line vars b ∷ map (bot_line vars) bs) (more_of (IsBotLine vars) one_more before)
      (lines_behind_line (bot_line vars b ∷ []) (map (bot_line vars) bs) one more.spelled more.printed
      (λ w is ts s. found_made (λ ws. w ∷ ws) (λ ws are. ap (λ (c : Bot). c ∷ map written_amoebot ws) is ∙ ap (λ (cs : List Bot). b ∷ cs) are) ts (more.read ts s)))

-- ---- the walls

abbrev TheseNodes : List Node → List WrittenWall → Type 0
TheseNodes vs ws = map written_node ws ≡ vs

the_wall_word : (before : ℕ) → before < most_walls → Rereads (IsWallWord before) Any (codes "wall" ∷ [])
the_wall_word before lt = rereads_made (λ (t : Lexeme). t.line) (codes "wall" ∷ []) (λ t s. tt) (one_rereads (codes "wall") (word_is_token _ _ refl refl (omega arith)) (one_found (codes "wall") (the_passes Word (codes "wall") refl refl) (λ t s. not_past before most_walls lt)))

the_wall : (before : ℕ) → before < most_walls → (v : Node) → HasCoordinates v → Rereads (IsWallLine before) (λ w. written_node w ≡ v) (wall_words v)
the_wall before lt v l =
    let p = a_node v l in
    rereads_behind (codes "wall" ∷ []) _ (the_wall_word before lt) p.spelled p.printed (λ line x ts s. found_made (λ v. written_wall line v) (λ u e. e) ts (p.read ts s))

the_walls : (before : ℕ) (vs : List Node) → before + length vs ≤ most_walls → All HasCoordinates vs → RereadsLines (AreWallLines true before) (TheseNodes vs) (map wall_words vs)
the_walls before [] fit all = lines_by {A = List WrittenWall} {B = List WrittenWall} {P = AreWallLines true before} {Q = AreWallLines true before} {R = Is []} {S = TheseNodes []} {lines = []} (λ ws. ws) (λ xs ws p. p) (λ ws e. ap (map written_node) e) (lines_nothing [] no_more)
the_walls before (v ∷ vs) fit all =
    let more = the_walls (suc before) vs (omega arith) (All-tail HasCoordinates v vs all) in
    let one = reread_line (wall_words v) (the_wall before (omega arith) v (All-head HasCoordinates v vs all)) in
    lines_into (wall_words v ∷ map wall_words vs) (more_of IsWallLine one_more before)
    (lines_behind_line (wall_words v ∷ []) (map wall_words vs) one more.spelled more.printed
    (λ w is ts s. found_made (λ ws. w ∷ ws) (λ ws are. ap (λ (u : Node). u ∷ map written_node ws) is ∙ ap (λ (us : List Node). v ∷ us) are) ts (more.read ts s)))

-- where a text may have none, there are none
no_walls : RereadsLines (AreWallLines false 0) (TheseNodes []) []
no_walls = lines_by {A = List WrittenWall} {B = List WrittenWall} {P = AreWallLines false 0} {Q = AreWallLines false 0} {R = Is []} {S = TheseNodes []} {lines = []} (λ ws. ws) (λ xs ws p. p) (λ ws e. ap (map written_node) e) (lines_nothing [] is_nothing)

lines_of_numbers : (a : Extent) (ns : List ℕ) → map wall_words (map (node_at a) ns) ≡ wall_lines a ns
lines_of_numbers a [] = refl
lines_of_numbers a (n ∷ ns) = ap (λ (lines : List Words). wall_words (node_at a n) ∷ lines) (lines_of_numbers a ns)

walls_of : (may : Bool) (vs : List Node) → (may ≡ false → vs ≡ []) → length vs ≤ most_walls → All HasCoordinates vs → RereadsLines (AreWallLines may 0) (TheseNodes vs) (map wall_words vs)
walls_of true vs only few all = the_walls 0 vs (omega (arith, few)) all
walls_of false vs only few all = subst (λ (us : List Node). RereadsLines (AreWallLines false 0) (TheseNodes us) (map wall_words us)) (sym (only refl)) no_walls

-- ---- sections

-- a judgement that is no refusal
lines_judged : {A : Type 0} {P : Lang A} {R : A → Type 0} (judge : A → Option Refusal) (lines : List Words) → ((a : A) → R a → judge a ≡ None) → RereadsLines P R lines → RereadsLines (Judged P judge) R lines
lines_judged judge lines none p = record { spelled = p.spelled; printed = p.printed; read = λ ts s. found_judged judge none ts (p.read ts s) }

module _ (may : Bool) (vars : ℕ) (le : vars ≤ 8) (c : Config) (bs : List Bot) (valid : IsValid (with_these c bs)) (only : may ≡ false → c.walls ≡ []) (few : length bs ≤ most_bots) (limits : All (HasLimits vars) bs) where
  abbrev Nodes : List Node
  Nodes = map (node_at c.area) c.walls

  abbrev IsThis : WrittenShape → Type 0
  IsThis s = (s.area ≡ c.area) × (map written_node s.walls ≡ Nodes) × (map written_amoebot s.bots ≡ bs)

  abbrev the_lines : List Words
  the_lines = area_words c.area ∷ wall_lines c.area c.walls ++ map (bot_line vars) bs

  rising : Rising (λ n. n) c.walls
  rising = rising_numbers c.walls valid.rising

  nodes_have : All HasCoordinates Nodes
  nodes_have = All-map HasCoordinates (node_at c.area) c.walls (λ k d lt. has_coordinates c.area (node_at c.area (get_or c.walls k d)) valid.area (ap (λ (o : Option ℕ). is_some o) (index_of_node_at c.area (get_or c.walls k d) (valid.walled k d lt))))

  few_nodes : length Nodes ≤ most_walls
  few_nodes = let size = length-map c.walls (node_at c.area) in let few = few_numbers c.area valid.area c.walls rising valid.walled in omega arith

  as_nodes : map wall_words Nodes ≡ wall_lines c.area c.walls
  as_nodes = lines_of_numbers c.area c.walls

  its_walls : RereadsLines (AreWallLines may 0) (TheseNodes Nodes) (wall_lines c.area c.walls)
  its_walls = subst (λ (lines : List Words). RereadsLines (AreWallLines may 0) (TheseNodes Nodes) lines) as_nodes (walls_of may Nodes (λ none. ap (map (node_at c.area)) (only none)) few_nodes nodes_have)

  filling : RereadsLines (Filling vars may c.area) IsThis (wall_lines c.area c.walls ++ map (bot_line vars) bs)
  filling =
      let bots = the_bots vars le 0 bs (omega (arith, few)) limits in
      lines_behind_line (wall_lines c.area c.walls) (map (bot_line vars) bs) its_walls bots.spelled bots.printed
      (λ ws are ts s. found_made (λ bots. written_shape c.area ws bots) (λ found e. (refl, are, e)) ts (bots.read ts s))

  drawing : RereadsLines (Drawing vars may) IsThis the_lines
  drawing = lines_then (area_words c.area ∷ []) (wall_lines c.area c.walls ++ map (bot_line vars) bs) c.area (reread_line (area_words c.area) (the_area c.area valid.area)) filling

  closed_drawing : RereadsLines (Closed (Drawing vars may) is_end) IsThis (the_lines ++ (codes "end" ∷ []) ∷ [])
  closed_drawing =
      let last = reread_line (codes "end" ∷ []) (rereads_the Word (codes "end") (word_is_token _ _ refl refl (omega arith)) refl refl) in
      lines_behind_line the_lines ((codes "end" ∷ []) ∷ []) drawing last.spelled last.printed (λ s is ts e. found_made (λ line. s) (λ line x. is) ts (last.read ts e))

  framed : (s : WrittenShape) → IsThis s → shape_frame c.maxes s ≡ frame c
  framed s is =
      ap (λ (x : Extent). walled_frame x (map written_node s.walls) c.maxes) is.0 ∙ ap (λ (vs : List Node). walled_frame c.area vs c.maxes) is.1
      ∙ ap (λ (walls : List ℕ). record (frame c) { walls = walls }) (numbers_of_nodes c.area c.walls rising valid.walled)

  stand_there : AreWalls c.area Nodes (length Nodes)
  stand_there = subst (λ (n : ℕ). AreWalls c.area Nodes n) (sym (length-map c.walls (node_at c.area))) (nodes_are_walls c.area c.walls rising valid.walled)

  stand : (s : WrittenShape) → IsThis s → HasWalls s
  stand s is = subst (λ (n : ℕ). AreWalls s.area (map written_node s.walls) n) (length-map s.walls written_node)
      (subst (λ (x : Extent). AreWalls x (map written_node s.walls) (length (map written_node s.walls))) (sym is.0)
      (subst (λ (vs : List Node). AreWalls c.area vs (length vs)) (sym is.1) stand_there))

  fine : (s : WrittenShape) → IsThis s → shape_fault c.maxes s ≡ None
  fine s is = faultless_fits c.maxes c bs (valid_is_faultless c bs valid) s (stand s is) (framed s is) is.2

  same : (s : WrittenShape) → IsThis s → stands_for c.maxes s ≡ with_these c bs
  same s is = ap (λ (x : Config). with_these x (map written_amoebot s.bots)) (framed s is) ∙ ap (with_these c) is.2

  -- in a section with this word
  pub shape_lines : (text : List ℕ) → Rereads (IsWord text) Any (text ∷ []) → RereadsLines (Made (Judged (IsWrittenShape may text vars) (shape_fault c.maxes)) (stands_for c.maxes)) (Is (with_these c bs)) ((text ∷ []) ∷ the_lines ++ (codes "end" ∷ []) ∷ [])
  shape_lines text first =
      let all = (text ∷ []) ∷ the_lines ++ (codes "end" ∷ []) ∷ [] in
      lines_made (stands_for c.maxes) all same (lines_judged (shape_fault c.maxes) all fine (lines_next ((text ∷ []) ∷ []) (the_lines ++ (codes "end" ∷ []) ∷ []) (reread_line (text ∷ []) first) closed_drawing))

-- ---- worlds

-- without gaps, the amoebots are those that are there
all_present : (os : List (Option Bot)) → ((i : ℕ) → i < length os → IsSome (slice_index_or os i None)) → map Some (present os) ≡ os
all_present [] some = refl
all_present (Some b ∷ os) some = ap (λ (rest : List (Option Bot)). Some b ∷ rest) (all_present os (λ i lt. some (suc i) (omega arith)))
all_present (None ∷ os) some = absurd (let is = some zero (omega arith) in cc)

module _ (version vars : ℕ) (c : Config) (w : IsWritableConfig version vars c) where
  abbrev bots : List Bot
  bots = present c.bots

  all : map Some bots ≡ c.bots
  all = all_present c.bots w.no_gaps

  is : with_these c bots ≡ c
  is = ap (λ (os : List (Option Bot)). record c { bots = os }) all

  limits_of : (k : ℕ) (b : Bot) → bot_at c k ≡ Some b → HasLimits vars b
  limits_of k b at =
      let i = w.valid.each k b at in
      record {
        head = has_coordinates c.area b.head w.valid.area i.head;
        tail = has_coordinates c.area b.tail w.valid.area i.tail;
        rot = (let r = i.rot in omega arith);
        eight = i.eight;
        values = small_values c.maxes b.mem i.values i.eight w.valid.eight w.maxes;
        zeros = w.zeros k b at;
      }

  limits : All (HasLimits vars) bots
  limits k d lt = limits_of k _ (ap (λ (os : List (Option Bot)). slice_index_or os k None) (sym all) ∙ get_or-map Some bots k d None lt)

  few : length bots ≤ most_bots
  few = let size : length bots ≡ length c.bots = sym (length-map bots Some) ∙ ap length all in let most = w.few in omega arith

  abbrev lines : List ℕ → List Words
  lines text = (text ∷ []) ∷ (area_words c.area ∷ wall_lines c.area c.walls ++ map (bot_line vars) bots) ++ (codes "end" ∷ []) ∷ []

  pub config_lines : vars ≤ 8 → (text : List ℕ) → Rereads (IsWord text) Any (text ∷ []) → RereadsLines (IsShapeUnder version text vars c.maxes) (Is c) (lines text)
  config_lines le text first = subst (λ (x : Config). RereadsLines (IsShapeUnder version text vars c.maxes) (Is x) (lines text)) is
      (shape_lines (may_have_walls version) vars le c bots (subst IsValid (sym is) w.valid) w.walls few limits text first)

  says_it : vars ≤ 8 → (text : List ℕ) → Rereads (IsWord text) Any (text ∷ []) → Says (IsShapeUnder version text vars c.maxes) (shape_text text vars c) (Ok c)
  says_it le text first = lines_say (IsShapeUnder version text vars c.maxes) c (lines text) (config_lines le text first)

pub shape_word : Rereads (IsWord (codes "shape")) Any (codes "shape" ∷ [])
shape_word = the_word _ _ refl refl (omega arith) refl

pub final_word : Rereads (IsWord (codes "final")) Any (codes "final" ∷ [])
final_word = the_word _ _ refl refl (omega arith) refl

pub shapes_reread : ShapesReadBack
shapes_reread version vars c le w = record { shape = says_it version vars c w le (codes "shape") shape_word; final = says_it version vars c w le (codes "final") final_word }
