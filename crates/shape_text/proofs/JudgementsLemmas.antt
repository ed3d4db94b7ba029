-- The first rule that the amoebots of a shape break is the one for which a world refuses them.
use Rattle.std.proofs.Common.{◌≡◌, ℕ, zero, suc, ◌<◌, Bool, true, false, List, [], ◌∷◌, ◌++◌, length, take, map, slice_get, Option, Some, None, refl, sym, ap, subst, ◌∙◌, arith, append_assoc}
use Rattle.std.specs.Prelude.{not, ◌&&◌, ◌||◌, is_some, if◌then◌else◌}
use Rattle.std.specs.Option.{option_map, option_or}
use Rattle.std.specs.List.{All}
use Rattle.std.proofs.lemmas.List.{append-nil, length-map, length-take-le}
use Rattle.std.proofs.lemmas.List.Elements.{All-map}
use Rattle.std.proofs.lemmas.Option.{slice_get_within, slice_get-map}
use Rattle.text_tokens.specs.declared.refusal.Refusal.{Refusal}
use Rattle.text_tokens.specs.declared.refusal.RefusalKind.{RefusalKind}
use Rattle.text_tokens.specs.declared.refusal.RefusalKind.TheVariants as kind
use Rattle.text_tokens.specs.Cursor.{on_line}
use Rattle.tri_lattice.specs.declared.node.Node.{Node}
use Rattle.tri_lattice.specs.Extent.{Extent, is_in}
use Rattle.amoebot_state.specs.declared.bot.Bot.{Bot}
use Rattle.amoebot_state.specs.declared.refusal.WorldRefusal.{WorldRefusal}
use Rattle.amoebot_state.specs.declared.refusal.WorldRefusal.TheVariants as world
use Rattle.amoebot_state.specs.Configs.{Config, frame, with_these, with_bot, is_wall, occupant, is_close, has_values}
use Rattle.amoebot_state.specs.Refusals.{bot_fault, IsBotInRange, IsFaultless, IsFirstFault, is_bad_wall, AreWalls, IsFirstBadWall}
use Rattle.shape_text.specs.declared.shape.Listed.TheVariants as list
use Rattle.shape_text.specs.declared.shape.WrittenWall as code_wall
use Rattle.shape_text.specs.declared.shape.WrittenBot as code_bot
use Rattle.shape_text.specs.Shapes.{WrittenWall, WrittenBot, WrittenShape, kind_of, first_bad_wall, broken, first_broken, written_node, written_amoebot, shape_frame, shape_fault}
use Rattle.shape_text.specs.Judgements.{HasWalls, JudgedAsWorlds}
use Rattle.shape_text.specs.Views as view
use Rattle.shape_text.specs.Views.{blamed_at}
use Rattle.shape_text.proofs.WallNumbers.{AreWallsBehind}

-- these amoebots behind those that are there
abbrev with_bots : Config → List Bot → Config
with_bots c bots = record c { bots = c.bots ++ map Some bots }

-- none of the first so many breaks a rule beside those before it
abbrev AreFine : Config → List Bot → ℕ → Type 0
AreFine c bots n = (j : ℕ) (b : Bot) → j < n → slice_get bots j ≡ Some b → bot_fault (with_bots c (take j bots)) b ≡ None

with_none : (c : Config) → with_bots c [] ≡ c
with_none c = ap (λ (bots : List (Option Bot)). record c { bots = bots }) (append-nil c.bots)

with_more : (c : Config) (b : Bot) (bots : List Bot) → with_bots (with_bot c b) bots ≡ with_bots c (b ∷ bots)
with_more c b bots = ap (λ (all : List (Option Bot)). record c { bots = all }) (append_assoc c.bots (Some b ∷ []) (map Some bots))

rest_fine : (c : Config) (b : Bot) (bots : List Bot) (n : ℕ) → AreFine c (b ∷ bots) (suc n) → AreFine (with_bot c b) bots n
rest_fine c b bots n fine j d lt at = ap (λ (x : Config). bot_fault x d) (with_more c b (take j bots)) ∙ fine (suc j) d (omega arith) at

first_fine : (c : Config) (b : Bot) (bots : List Bot) (n : ℕ) → AreFine c (b ∷ bots) (suc n) → bot_fault c b ≡ None
first_fine c b bots n fine = ap (λ (x : Config). bot_fault x b) (sym (with_none c)) ∙ fine zero b (omega arith) refl

unbroken : (c : Config) (w : WrittenBot) → bot_fault c w.bot ≡ None → broken c w ≡ None
unbroken c w e = rw e refl

pub none_broken : (c : Config) (ws : List WrittenBot) → AreFine c (map written_amoebot ws) (length ws) → first_broken c ws ≡ None
none_broken c [] fine = refl
none_broken c (w ∷ ws) fine =
    let one : broken c w ≡ None = unbroken c w (first_fine c w.bot (map written_amoebot ws) (length ws) fine) in
    rw one (none_broken (with_bot c w.bot) ws (rest_fine c w.bot (map written_amoebot ws) (length ws) fine))

pub one_broken : (c : Config) (ws : List WrittenBot) (n : ℕ) (w : WrittenBot) (r : Refusal) → slice_get ws n ≡ Some w → AreFine c (map written_amoebot ws) n → broken (with_bots c (take n (map written_amoebot ws))) w ≡ Some r → first_broken c ws ≡ Some r
one_broken c [] n w r at fine e = absurd cc
one_broken c (v ∷ ws) zero w r at fine e =
    let same : v ≡ w = cc in
    let one : broken c v ≡ Some r = ap (broken c) same ∙ ap (λ (x : Config). broken x w) (sym (with_none c)) ∙ e in
    rw one refl
one_broken c (v ∷ ws) (suc n) w r at fine e =
    let one : broken c v ≡ None = unbroken c v (first_fine c v.bot (map written_amoebot ws) n fine) in
    rw one (one_broken (with_bot c v.bot) ws n w r at (rest_fine c v.bot (map written_amoebot ws) n fine) (ap (λ (x : Config). broken x w) (with_more c v.bot (take n (map written_amoebot ws))) ∙ e))

-- ---- what a world says

-- the amoebot that is refused is the next one, and it is refused for the rule that it breaks
pub record Blames (c : Config) (b : Bot) (e : WorldRefusal) : Type 0 where
  pub kind : RefusalKind
  pub names : blamed_at e ≡ Some (list.Bots, length c.bots, kind)
  pub breaks : kind_of e ≡ Some kind

blames : (c : Config) (b : Bot) (e : WorldRefusal) → bot_fault c b ≡ Some e → Blames c b e
blames c b e f = by_box (not (is_in c.area b.head && is_in c.area b.tail)) (not (is_close b.head b.tail)) (is_wall c b.head || is_wall c b.tail) (is_some (occupant c b.head) || is_some (occupant c b.tail)) (not (has_values c.maxes b.mem)) f
  where
    n : ℕ
    n = length c.bots

    is_this : (x : WorldRefusal) → Some x ≡ Some e → Blames c b x → Blames c b e
    is_this x s k = let same : x ≡ e = cc in subst (λ (y : WorldRefusal). Blames c b y) same k

    by_value : (v : Bool) → (if v then Some (world.BadValue n) else None) ≡ Some e → Blames c b e
    by_value true s = is_this (world.BadValue n) s (record { kind = kind.BadValue; names = refl; breaks = refl })
    by_value false s = absurd cc

    by_overlap : (o v : Bool) → (if o then Some (world.Overlap n) else if v then Some (world.BadValue n) else None) ≡ Some e → Blames c b e
    by_overlap true v s = is_this (world.Overlap n) s (record { kind = kind.Overlap; names = refl; breaks = refl })
    by_overlap false v s = by_value v s

    by_wall : (w o v : Bool) → (if w then Some (world.OnWall n) else if o then Some (world.Overlap n) else if v then Some (world.BadValue n) else None) ≡ Some e → Blames c b e
    by_wall true o v s = is_this (world.OnWall n) s (record { kind = kind.OnWall; names = refl; breaks = refl })
    by_wall false o v s = by_overlap o v s

    by_close : (a w o v : Bool) → (if a then Some (world.NotAdjacent n) else if w then Some (world.OnWall n) else if o then Some (world.Overlap n) else if v then Some (world.BadValue n) else None) ≡ Some e → Blames c b e
    by_close true w o v s = is_this (world.NotAdjacent n) s (record { kind = kind.NotAdjacent; names = refl; breaks = refl })
    by_close false w o v s = by_wall w o v s

    by_box : (x a w o v : Bool) → (if x then Some (world.OutOfBox n) else if a then Some (world.NotAdjacent n) else if w then Some (world.OnWall n) else if o then Some (world.Overlap n) else if v then Some (world.BadValue n) else None) ≡ Some e → Blames c b e
    by_box true a w o v s = is_this (world.OutOfBox n) s (record { kind = kind.OutOfBox; names = refl; breaks = refl })
    by_box false a w o v s = by_close a w o v s

breaks_it : (c : Config) (w : WrittenBot) (e : WorldRefusal) (k : RefusalKind) → bot_fault c w.bot ≡ Some e → kind_of e ≡ Some k → broken c w ≡ Some (on_line w.line k)
breaks_it c w e k f g = rw (f, g) refl

-- ---- the amoebots as the code has them

abbrev Code : Type 0
Code = code_bot.WrittenBot

abbrev pub its_bot : Code → Bot
its_bot b = b.bot

pub same_bots : (ws : List Code) → map written_amoebot (map view.bot_view ws) ≡ map its_bot ws
same_bots [] = refl
same_bots (w ∷ ws) = ap (λ (bs : List Bot). w.bot ∷ bs) (same_bots ws)

pub bots_in_range : (ws : List Code) → All (λ (b : Code). IsBotInRange b.bot) ws → All IsBotInRange (map its_bot ws)
bots_in_range ws all = All-map IsBotInRange its_bot ws all

-- the one of which an element of the image is
record Of {A B : Type 0} (f : A → B) (ws : List A) (n : ℕ) (b : B) : Type 0 where
  pub one : A
  pub there : slice_get ws n ≡ Some one
  pub is : f one ≡ b

of_image : {A B : Type 0} (f : A → B) (ws : List A) (n : ℕ) (b : B) → slice_get (map f ws) n ≡ Some b → Of f ws n b
of_image f [] n b at = absurd cc
of_image f (w ∷ ws) zero b at = record { one = w; there = refl; is = cc }
of_image f (w ∷ ws) (suc n) b at = let o = of_image f ws n b at in record { one = o.one; there = o.there; is = o.is }

seen_at : {A B : Type 0} (f : A → B) (ws : List A) (n : ℕ) (w : A) → slice_get ws n ≡ Some w → slice_get (map f ws) n ≡ Some (f w)
seen_at f ws n w at = slice_get-map f ws n ∙ ap (option_map f) at

module _ (c : Config) (ws : List Code) where
  abbrev start : Config
  start = frame c

  abbrev Bots : List Bot
  Bots = map its_bot ws

  fine_of : (n : ℕ) → IsFaultless c Bots n → AreFine start (map written_amoebot (map view.bot_view ws)) n
  fine_of n fine = subst (λ (bs : List Bot). AreFine start bs n) (sym (same_bots ws)) (λ j b lt at. fine j b lt at)

  pub is_faultless : IsFaultless c Bots (length Bots) → first_broken start (map view.bot_view ws) ≡ None
  is_faultless fine =
      let size : length Bots ≡ length (map view.bot_view ws) = length-map ws its_bot ∙ sym (length-map ws view.bot_view) in
      none_broken start (map view.bot_view ws) (subst (λ (n : ℕ). AreFine start (map written_amoebot (map view.bot_view ws)) n) size (fine_of (length Bots) fine))

  -- the amoebot that a world refuses, with its line
  pub record Refusing (e : WorldRefusal) : Type 0 where
    pub place : ℕ
    pub one : Code
    pub kind : RefusalKind
    pub there : slice_get ws place ≡ Some one
    pub inside : place < length ws
    pub names : blamed_at e ≡ Some (list.Bots, place, kind)
    pub first : first_broken start (map view.bot_view ws) ≡ Some (on_line one.line kind)

  pub refusing : (e : WorldRefusal) → IsFirstFault c Bots e → Refusing e
  refusing e f =
      let o = of_image its_bot ws f.place f.bot f.there in
      let was = with_these c (take f.place Bots) in
      let b = blames was f.bot e f.fault in
      let size : length was.bots ≡ f.place = length-map (take f.place Bots) Some ∙ length-take-le f.place Bots (let lt = slice_get_within Bots f.place f.bot f.there in omega arith) in
      let fault : bot_fault was o.one.bot ≡ Some e = ap (bot_fault was) o.is ∙ f.fault in
      let before : with_bots start (take f.place (map written_amoebot (map view.bot_view ws))) ≡ was = ap (λ (bs : List Bot). with_bots start (take f.place bs)) (same_bots ws) in
      let rule : broken (with_bots start (take f.place (map written_amoebot (map view.bot_view ws)))) (view.bot_view o.one) ≡ Some (on_line o.one.line b.kind) = ap (λ (x : Config). broken x (view.bot_view o.one)) before ∙ breaks_it was (view.bot_view o.one) e b.kind fault b.breaks in
      record {
        place = f.place;
        one = o.one;
        kind = b.kind;
        there = o.there;
        inside = slice_get_within ws f.place o.one o.there;
        names = b.names ∙ ap (λ (n : ℕ). Some (list.Bots, n, b.kind)) size;
        first = one_broken start (map view.bot_view ws) f.place (view.bot_view o.one) (on_line o.one.line b.kind) (seen_at view.bot_view ws f.place o.one o.there) (fine_of f.place f.before) rule;
      }

-- ---- walls

first_is : (a : Extent) (before : List Node) (v : Node) (walls : List Node) (n : ℕ) → AreWallsBehind a before (v ∷ walls) (suc n) → is_bad_wall a before v ≡ false
first_is a before v walls n are = ap (λ (vs : List Node). is_bad_wall a vs v) (sym (append-nil before)) ∙ are zero v (omega arith) refl

rest_are : (a : Extent) (before : List Node) (v : Node) (walls : List Node) (n : ℕ) → AreWallsBehind a before (v ∷ walls) (suc n) → AreWallsBehind a (before ++ v ∷ []) walls n
rest_are a before v walls n are j u lt at = ap (λ (vs : List Node). is_bad_wall a vs u) (append_assoc before (v ∷ []) (take j walls)) ∙ are (suc j) u (omega arith) at

-- behind walls that may stand there, those that follow are judged
none_bad : (a : Extent) (before : List Node) (ws : List WrittenWall) → AreWallsBehind a before (map written_node ws) (length ws) → first_bad_wall a before ws ≡ None
none_bad a before [] are = refl
none_bad a before (w ∷ ws) are =
    let one : is_bad_wall a before w.node ≡ false = first_is a before w.node (map written_node ws) (length ws) are in
    rw one (none_bad a (before ++ w.node ∷ []) ws (rest_are a before w.node (map written_node ws) (length ws) are))

one_bad : (a : Extent) (before : List Node) (ws : List WrittenWall) (n : ℕ) (w : WrittenWall) → slice_get ws n ≡ Some w → AreWallsBehind a before (map written_node ws) n → is_bad_wall a (before ++ take n (map written_node ws)) w.node ≡ true
    → first_bad_wall a before ws ≡ Some (on_line w.line kind.BadWall)
one_bad a before [] n w at are bad = absurd cc
one_bad a before (v ∷ ws) zero w at are bad =
    let same : v ≡ w = cc in
    let one : is_bad_wall a before v.node ≡ true = ap (λ (vs : List Node). is_bad_wall a vs v.node) (sym (append-nil before)) ∙ ap (λ (x : WrittenWall). is_bad_wall a (before ++ []) x.node) same ∙ bad in
    rw one (ap (λ (x : WrittenWall). Some (on_line x.line kind.BadWall)) same)
one_bad a before (v ∷ ws) (suc n) w at are bad =
    let one : is_bad_wall a before v.node ≡ false = first_is a before v.node (map written_node ws) n are in
    rw one (one_bad a (before ++ v.node ∷ []) ws n w at (rest_are a before v.node (map written_node ws) n are) (ap (λ (vs : List Node). is_bad_wall a vs w.node) (append_assoc before (v.node ∷ []) (take n (map written_node ws))) ∙ bad))

-- ---- the walls as the code has them

abbrev CodeWall : Type 0
CodeWall = code_wall.WrittenWall

abbrev pub its_node : CodeWall → Node
its_node w = w.node

pub same_nodes : (ws : List CodeWall) → map written_node (map view.wall_view ws) ≡ map its_node ws
same_nodes [] = refl
same_nodes (w ∷ ws) = ap (λ (vs : List Node). w.node ∷ vs) (same_nodes ws)

module _ (a : Extent) (ws : List CodeWall) where
  abbrev Nodes : List Node
  Nodes = map its_node ws

  walls_fit : (n : ℕ) → AreWalls a Nodes n → AreWalls a (map written_node (map view.wall_view ws)) n
  walls_fit n are = subst (λ (vs : List Node). AreWalls a vs n) (sym (same_nodes ws)) are

  pub all_fit : AreWalls a Nodes (length Nodes) → AreWalls a (map written_node (map view.wall_view ws)) (length (map view.wall_view ws))
  all_fit are =
      let size : length Nodes ≡ length (map view.wall_view ws) = length-map ws its_node ∙ sym (length-map ws view.wall_view) in
      subst (λ (n : ℕ). AreWalls a (map written_node (map view.wall_view ws)) n) size (walls_fit (length Nodes) are)

  pub none_refused : AreWalls a Nodes (length Nodes) → first_bad_wall a [] (map view.wall_view ws) ≡ None
  none_refused are = none_bad a [] (map view.wall_view ws) (all_fit are)

  -- the wall that a world refuses, with its line
  pub record RefusingWall (place : ℕ) : Type 0 where
    pub one : CodeWall
    pub there : slice_get ws place ≡ Some one
    pub inside : place < length ws
    pub first : first_bad_wall a [] (map view.wall_view ws) ≡ Some (on_line one.line kind.BadWall)

  pub refusing_wall : (place : ℕ) → IsFirstBadWall a Nodes place → RefusingWall place
  refusing_wall place f =
      let o = of_image its_node ws place f.wall f.there in
      let same = same_nodes ws in
      let bad : is_bad_wall a (take place (map written_node (map view.wall_view ws))) o.one.node ≡ true =
      ap (λ (vs : List Node). is_bad_wall a (take place vs) o.one.node) same ∙ ap (is_bad_wall a (take place Nodes)) o.is ∙ f.bad in
      record {
        one = o.one;
        there = o.there;
        inside = slice_get_within ws place o.one o.there;
        first = one_bad a [] (map view.wall_view ws) place (view.wall_view o.one) (seen_at view.wall_view ws place o.one o.there) (walls_fit place f.before) bad;
      }

-- a shape none of whose walls and amoebots breaks a rule
pub faultless_fits : (maxes : List ℕ) (c : Config) (bs : List Bot) → IsFaultless c bs (length bs) → (s : WrittenShape) → HasWalls s → shape_frame maxes s ≡ frame c → map written_amoebot s.bots ≡ bs → shape_fault maxes s ≡ None
faultless_fits maxes c bs fine s walls framed bots =
    let size : length bs ≡ length s.bots = sym (ap length bots) ∙ length-map s.bots written_amoebot in
    let here : AreFine (frame c) bs (length bs) = λ j b lt at. fine j b lt at in
    let none : first_broken (shape_frame maxes s) s.bots ≡ None = none_broken (shape_frame maxes s) s.bots
    (subst (λ (n : ℕ). AreFine (shape_frame maxes s) (map written_amoebot s.bots) n) size
    (subst (λ (cs : List Bot). AreFine (shape_frame maxes s) cs (length bs)) (sym bots)
    (subst (λ (x : Config). AreFine x bs (length bs)) (sym framed) here))) in
    rw (none_bad s.area [] s.walls walls) none

pub judged_as_worlds : JudgedAsWorlds
judged_as_worlds = record {
  fine = λ maxes s walls fine. faultless_fits maxes (shape_frame maxes s) (map written_amoebot s.bots) (subst (λ (n : ℕ). IsFaultless (shape_frame maxes s) (map written_amoebot s.bots) n) (sym (length-map s.bots written_amoebot)) fine) s walls refl refl;
  wall = λ maxes s place w f at.
      let there : Some f.wall ≡ Some w.node = sym f.there ∙ slice_get-map written_node s.walls place ∙ ap (option_map written_node) at in
      let same : f.wall ≡ w.node = cc in
      let bad : is_bad_wall s.area (take place (map written_node s.walls)) w.node ≡ true = ap (is_bad_wall s.area (take place (map written_node s.walls))) (sym same) ∙ f.bad in
      rw (one_bad s.area [] s.walls place w at f.before bad) refl;
  first = λ maxes s e walls f w k at kind.
      let there : Some f.bot ≡ Some w.bot = sym f.there ∙ slice_get-map written_amoebot s.bots f.place ∙ ap (option_map written_amoebot) at in
      let same : f.bot ≡ w.bot = cc in
      let was = with_these (shape_frame maxes s) (take f.place (map written_amoebot s.bots)) in
      let fault : bot_fault was w.bot ≡ Some e = ap (bot_fault was) (sym same) ∙ f.fault in
      rw (none_bad s.area [] s.walls walls) (one_broken (shape_frame maxes s) s.bots f.place w (on_line w.line k) at (λ j b lt seen. f.before j b lt seen) (breaks_it was w e k fault kind));
}

-- ---- amoebots of which none breaks a rule

-- what is refused breaks a rule
is_broken : (c : Config) (w : WrittenBot) (e : WorldRefusal) → bot_fault c w.bot ≡ Some e → broken c w ≡ None → ⊥
is_broken c w e fault none =
    let b = blames c w.bot e fault in
    let rule : broken c w ≡ Some (on_line w.line b.kind) = breaks_it c w e b.kind fault b.breaks in
    let no : None ≡ Some (on_line w.line b.kind) = sym none ∙ rule in
    absurd cc

fine_alone : (c : Config) (w : WrittenBot) → broken c w ≡ None → bot_fault c w.bot ≡ None
fine_alone c w none = by (bot_fault c w.bot) refl
  where
    by : (o : Option WorldRefusal) → bot_fault c w.bot ≡ o → bot_fault c w.bot ≡ None
    by None e = e
    by (Some e) f = absurd (is_broken c w e f none)

first_alone : (o q : Option Refusal) → option_or o q ≡ None → (o ≡ None) × (q ≡ None)
first_alone None q e = (refl, e)
first_alone (Some r) q e = absurd cc

all_fine : (c : Config) (ws : List WrittenBot) → first_broken c ws ≡ None → AreFine c (map written_amoebot ws) (length ws)
all_fine c [] none j b lt at = absurd (omega arith)
all_fine c (w ∷ ws) none zero b lt at =
    let both = first_alone (broken c w) (first_broken (with_bot c w.bot) ws) none in
    let same : w.bot ≡ b = cc in
    ap (λ (x : Config). bot_fault x b) (with_none c) ∙ subst (λ (d : Bot). bot_fault c d ≡ None) same (fine_alone c w both.0)
all_fine c (w ∷ ws) none (suc j) b lt at =
    let both = first_alone (broken c w) (first_broken (with_bot c w.bot) ws) none in
    ap (λ (x : Config). bot_fault x b) (sym (with_more c w.bot (take j (map written_amoebot ws)))) ∙ all_fine (with_bot c w.bot) ws both.1 j b (omega arith) at

-- a shape without a fault is one of which a world refuses nothing
pub unrefused : (maxes : List ℕ) (s : WrittenShape) → shape_fault maxes s ≡ None → IsFaultless (shape_frame maxes s) (map written_amoebot s.bots) (length (map written_amoebot s.bots))
unrefused maxes s none j b lt at =
    let both = first_alone (first_bad_wall s.area [] s.walls) (first_broken (shape_frame maxes s) s.bots) none in
    let size : length (map written_amoebot s.bots) ≡ length s.bots = length-map s.bots written_amoebot in
    all_fine (shape_frame maxes s) s.bots both.1 j b (omega arith) at
