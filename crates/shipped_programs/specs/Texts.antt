-- The texts of the shipped programs.
use Rattle.std.specs.Prelude.{ℕ, List, ◌++◌, codes}

-- amoebots of a common chirality gather in a hexagon round a seed
abbrev pub text_of_hexagon : List ℕ
text_of_hexagon =
    codes "program\nguard off\nvar state 4\nvar parent 6\nvar aim 6\naction root\n"
    ++ codes "when contracted and ( state = 0 or state = 2 )\n"
    ++ codes " and any p in ports ( p . state = 1 or p . state = 4 )\n"
    ++ codes "do parent := 6 ; state := 3\naction follow\nwhen contracted and state = 0\n"
    ++ codes " and any p in ports ( p . state = 2 or p . state = 3 )\n"
    ++ codes "do let q := first p in ports ( p . state = 2 or p . state = 3 ) ;\n"
    ++ codes " parent := dir q ; state := 2\n"
    ++ codes "action retire\nwhen contracted and state = 3 and any p in ports (\n"
    ++ codes " ( p . state = 1 or p . state = 4 ) and p . aim = peer_dir p )\n"
    ++ codes "do let q := first p in ports ( ( p . state = 1 or p . state = 4 )\n and not ( linked turn p 5\n"
    ++ codes " and ( turn p 5 . state = 1 or turn p 5 . state = 4 ) ) ) ;\n"
    ++ codes " aim := dir turn q 5 ; state := 4\naction go\n"
    ++ codes "when contracted and state = 3 and any p in ports (\n"
    ++ codes " ( p . state = 1 or p . state = 4 ) and free turn p 1 )\n"
    ++ codes "move expand turn first p in ports (\n"
    ++ codes " ( p . state = 1 or p . state = 4 ) and free turn p 1 ) 1\naction drag\n"
    ++ codes "when expanded and ( state = 2 or state = 3 )\n and not any p in ports ( p . state = 0 )\n"
    ++ codes " and any p in ports ( not at_head p and p . state = 2\n"
    ++ codes " and not peer_expanded p and p . parent = peer_dir p )\n"
    ++ codes "do let q := first p in ports ( not at_head p and p . state = 2\n"
    ++ codes " and not peer_expanded p and p . parent = peer_dir p ) ;\n"
    ++ codes " q . parent := mod6 ( inner - dir q + peer_dir q + 3 )\nmove pull q\naction rest\n"
    ++ codes "when expanded and ( state = 2 or state = 3 )\n"
    ++ codes " and not any p in ports ( p . state = 0 or not at_head p\n"
    ++ codes " and p . state = 2 and peer_head p and p . parent = peer_dir p )\nmove contract tail\nend\n"

-- candidates give up until one is left, which leads
abbrev pub text_of_erosion : List ℕ
text_of_erosion =
    codes "program\nguard off\nvar cand 1\nvar leader 1\naction lead\n"
    ++ codes "when cand = 1 and leader = 0 and not any p in ports ( p . cand = 1 )\n"
    ++ codes "do leader := 1\naction erode\n"
    ++ codes "when cand = 1 and count p in ports ( p . cand = 1\n"
    ++ codes " and not ( linked turn p 1 and turn p 1 . cand = 1 ) ) = 1\ndo cand := 0\nend\n"

-- the amoebots of one row gather at the border of the area
abbrev pub text_of_line : List ℕ
text_of_line =
    codes "program\nguard off\naction out\nwhen contracted and free head 0\n"
    ++ codes "move expand head 0\naction follow_up\n"
    ++ codes "when expanded\nmove contract tail\nend\n"
