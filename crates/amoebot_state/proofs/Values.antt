-- When values are the same.
use Rattle.std.proofs.Common.{◌≡◌, ℕ, List, [], ◌∷◌, map, Bool, int_eq, true, ◌&&◌, nat_eq, ap, sym, ◌∙◌, refl, subst, Option, Some, None}
use Rattle.std.specs.Bool.{Decides}
use Rattle.std.specs.List.{filter_map}
use Rattle.std.specs.Cmp.Lexicographic.{bytes_decides, pointwise}
use Rattle.std.proofs.lemmas.Bool.{eqb-true, eq-eqb, false≢true, and_parts, and_from}
use Rattle.std.proofs.lemmas.Bool.Decides.{Decides-int_eq}
use Rattle.std.proofs.lemmas.Cmp.{nat_list_eq_equiv}
use Rattle.tri_lattice.specs.Extent.{Extent}
use Rattle.tri_lattice.specs.Lattice.{node_eq}
use Rattle.tri_lattice.proofs.Nodes.{node_eq-true, node_eq_same}
use Rattle.amoebot_state.specs.declared.bot.Bot.{Bot}
use Rattle.amoebot_state.specs.declared.bot.Chir.{Chir}
use Rattle.amoebot_state.specs.declared.bot.Chir.TheVariants as chir
use Rattle.amoebot_state.specs.contracts.bot.ChirPartialEq.TheImpl as same_chir
use Rattle.amoebot_state.specs.declared.cell.Cell.{Cell}
use Rattle.amoebot_state.specs.declared.cell.Cell.TheVariants as cell
use Rattle.amoebot_state.specs.Configs.{Config, frame, with_these}
use Rattle.amoebot_state.specs.Patches.{chir_eq, bot_eq, id_eq, cell_eq, same_value}
use Rattle.amoebot_state.specs.Laws.{SameValueIsEquality}

id_eq_same : (o : Option ℕ) → id_eq o o ≡ true
id_eq_same None = refl
id_eq_same (Some i) = eq-eqb i i refl

chir_eq_same : (h : Chir) → chir_eq h h ≡ true
chir_eq_same chir.Plus = refl
chir_eq_same chir.Minus = refl

bot_eq_same : (b : Bot) → bot_eq b b ≡ true
bot_eq_same b = and_from _ _ (and_from _ _ (and_from _ _ (and_from _ _ (node_eq_same b.head) (node_eq_same b.tail)) (eq-eqb b.rot b.rot refl)) (chir_eq_same b.chir)) (nat_list_eq_equiv.refl b.mem)

-- a value is the same as itself
pub value_same : (o : Option Cell) → same_value o o ≡ true
value_same None = refl
value_same (Some (cell.Spot o)) = id_eq_same o
value_same (Some (cell.Body b)) = bot_eq_same b

pub id_eq-true : (o q : Option ℕ) → id_eq o q ≡ true → o ≡ q
id_eq-true None None t = refl
id_eq-true None (Some j) t = absurd (false≢true t)
id_eq-true (Some i) None t = absurd (false≢true t)
id_eq-true (Some i) (Some j) t = ap Some (eqb-true i j t)

chir_eq-true : (g h : Chir) → chir_eq g h ≡ true → g ≡ h
chir_eq-true chir.Plus chir.Plus t = refl
chir_eq-true chir.Plus chir.Minus t = absurd (false≢true t)
chir_eq-true chir.Minus chir.Plus t = absurd (false≢true t)
chir_eq-true chir.Minus chir.Minus t = refl

pub bot_eq-true : (a b : Bot) → bot_eq a b ≡ true → a ≡ b
bot_eq-true a b t =
    let all = and_parts _ _ t in
    let to_chir = and_parts _ _ all.0 in
    let to_rot = and_parts _ _ to_chir.0 in
    let nodes = and_parts _ _ to_rot.0 in
    let head = node_eq-true a.head b.head nodes.0 in
    let tail = node_eq-true a.tail b.tail nodes.1 in
    let rot = eqb-true a.rot b.rot to_rot.1 in
    let way = chir_eq-true a.chir b.chir to_chir.1 in
    let mem = (bytes_decides a.mem b.mem).0 all.1 in
    λ i. record { head = head i; tail = tail i; rot = rot i; chir = way i; mem = mem i }

-- the derived test of chiralities
pub chirs_decide : (g h : Chir) → Decides (same_chir.eq-value.it g h) (g ≡ h)
chirs_decide chir.Plus chir.Plus = (λ _. refl, λ _. refl)
chirs_decide chir.Plus chir.Minus = (λ t. absurd (false≢true t), λ e. cc)
chirs_decide chir.Minus chir.Plus = (λ t. absurd (false≢true t), λ e. cc)
chirs_decide chir.Minus chir.Minus = (λ _. refl, λ _. refl)

-- the test field by field, whatever tests the chirality
pub fields_decide : (a b : Bot) (way : Bool) → Decides way (a.chir ≡ b.chir) → Decides (node_eq a.head b.head && (node_eq a.tail b.tail && (nat_eq a.rot b.rot && (way && pointwise nat_eq a.mem b.mem)))) (a ≡ b)
fields_decide a b way decides = (
  λ t.
      let nodes = and_parts (node_eq a.head b.head) (node_eq a.tail b.tail && (nat_eq a.rot b.rot && (way && pointwise nat_eq a.mem b.mem))) t in
      let tails = and_parts (node_eq a.tail b.tail) (nat_eq a.rot b.rot && (way && pointwise nat_eq a.mem b.mem)) nodes.1 in
      let rots = and_parts (nat_eq a.rot b.rot) (way && pointwise nat_eq a.mem b.mem) tails.1 in
      let ways = and_parts way (pointwise nat_eq a.mem b.mem) rots.1 in
      let same : bot_eq a b ≡ true = and_from _ _ (and_from _ _ (and_from _ _ (and_from _ _ nodes.0 tails.0) rots.0) (ap (chir_eq a.chir) (sym (decides.0 ways.0)) ∙ chir_eq_same a.chir)) ways.1 in
      bot_eq-true a b same,
  λ e. all e,
)
  where
    all : a ≡ b → (node_eq a.head b.head && (node_eq a.tail b.tail && (nat_eq a.rot b.rot && (way && pointwise nat_eq a.mem b.mem)))) ≡ true
    all e = and_from _ _ (ap (λ (c : Bot). node_eq a.head c.head) (sym e) ∙ node_eq_same a.head) (and_from _ _ (ap (λ (c : Bot). node_eq a.tail c.tail) (sym e) ∙ node_eq_same a.tail) (and_from _ _ (ap (λ (c : Bot). nat_eq a.rot c.rot) (sym e) ∙ eq-eqb a.rot a.rot refl) (and_from _ _ (decides.1 (ap (λ (c : Bot). c.chir) e)) (ap (λ (c : Bot). pointwise nat_eq a.mem c.mem) (sym e) ∙ nat_list_eq_equiv.refl a.mem))))

cell_eq-true : (x y : Cell) → cell_eq x y ≡ true → x ≡ y
cell_eq-true (cell.Spot o) (cell.Spot q) t = ap cell.Spot (id_eq-true o q t)
cell_eq-true (cell.Spot o) (cell.Body b) t = absurd (false≢true t)
cell_eq-true (cell.Body a) (cell.Spot q) t = absurd (false≢true t)
cell_eq-true (cell.Body a) (cell.Body b) t = ap cell.Body (bot_eq-true a b t)

-- and as no other
pub value_same-true : (x y : Option Cell) → same_value x y ≡ true → x ≡ y
value_same-true None None t = refl
value_same-true None (Some y) t = absurd (false≢true t)
value_same-true (Some x) None t = absurd (false≢true t)
value_same-true (Some x) (Some y) t = ap Some (cell_eq-true x y t)

pub same_value_is_equality : SameValueIsEquality
same_value_is_equality x y = (value_same-true x y, λ e. subst (λ z. same_value x z ≡ true) e (value_same x))

-- ---- when configurations are the same

pub same_extent : (a b : Extent) → (int_eq a.x0 b.x0 && (int_eq a.y0 b.y0 && (nat_eq a.w b.w && nat_eq a.h b.h))) ≡ true → a ≡ b
same_extent a b t =
    let lefts = and_parts (int_eq a.x0 b.x0) (int_eq a.y0 b.y0 && (nat_eq a.w b.w && nat_eq a.h b.h)) t in
    let lows = and_parts (int_eq a.y0 b.y0) (nat_eq a.w b.w && nat_eq a.h b.h) lefts.1 in
    let sides = and_parts (nat_eq a.w b.w) (nat_eq a.h b.h) lows.1 in
    let x0 = (Decides-int_eq a.x0 b.x0).0 lefts.0 in
    let y0 = (Decides-int_eq a.y0 b.y0).0 lows.0 in
    let w = eqb-true a.w b.w sides.0 in
    let h = eqb-true a.h b.h sides.1 in
    λ i. record { x0 = x0 i; y0 = y0 i; w = w i; h = h i }

-- configurations of listed amoebots are equal exactly where the lists are, if the rest is
pub same_configs : (c d : Config) (xs ys : List Bot) (r : Bool) → frame c ≡ frame d → Decides r (xs ≡ ys) → Decides r (with_these c xs ≡ with_these d ys)
same_configs c d xs ys r frames decides = (
  λ t. let bots = decides.0 t in λ i. with_these (frames i) (bots i),
  λ e. decides.1 (sym (listed xs) ∙ ap (λ (k : Config). filter_map (λ o. o) k.bots) e ∙ listed ys),
)
  where
    listed : (bots : List Bot) → filter_map (λ o. o) (map Some bots) ≡ bots
    listed [] = refl
    listed (x ∷ bots) = ap (λ zs. x ∷ zs) (listed bots)
