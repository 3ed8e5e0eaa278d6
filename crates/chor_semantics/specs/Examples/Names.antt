-- The names of the example sources, by their numbers.
use Rattle.std.specs.Prelude.{ℕ, List, [], ◌∷◌, codes}
use Rattle.chor_base.specs.declared.names.NameId.{NameId}

-- ---- processes

abbrev pub p : NameId
p = record { 0 = 0 }

abbrev pub q : NameId
q = record { 0 = 1 }

abbrev pub r : NameId
r = record { 0 = 2 }

abbrev pub b : NameId
b = record { 0 = 3 }

abbrev pub s : NameId
s = record { 0 = 4 }

abbrev pub z : NameId
z = record { 0 = 5 }

abbrev pub c : NameId
c = record { 0 = 6 }

-- ---- variables

abbrev pub x : NameId
x = record { 0 = 7 }

abbrev pub y : NameId
y = record { 0 = 8 }

-- ---- sessions

abbrev pub k : NameId
k = record { 0 = 9 }

abbrev pub h : NameId
h = record { 0 = 10 }

-- ---- channels

abbrev pub a : NameId
a = record { 0 = 11 }

abbrev pub d : NameId
d = record { 0 = 12 }

abbrev pub sale : NameId
sale = record { 0 = 13 }

abbrev pub hand : NameId
hand = record { 0 = 14 }

-- ---- roles

abbrev pub A : NameId
A = record { 0 = 15 }

abbrev pub B : NameId
B = record { 0 = 16 }

abbrev pub C : NameId
C = record { 0 = 17 }

abbrev pub D : NameId
D = record { 0 = 18 }

abbrev pub S : NameId
S = record { 0 = 19 }

abbrev pub Buyer : NameId
Buyer = record { 0 = 20 }

abbrev pub Seller : NameId
Seller = record { 0 = 21 }

abbrev pub From : NameId
From = record { 0 = 22 }

abbrev pub To : NameId
To = record { 0 = 23 }

-- ---- labels

abbrev pub go : NameId
go = record { 0 = 24 }

abbrev pub up : NameId
up = record { 0 = 25 }

abbrev pub down : NameId
down = record { 0 = 26 }

-- ---- a procedure, and its protocol with a state

abbrev pub Loop : NameId
Loop = record { 0 = 27 }

abbrev pub Ping : NameId
Ping = record { 0 = 28 }

abbrev pub begin : NameId
begin = record { 0 = 29 }

-- ---- the table of their words

abbrev pub words : List (List ℕ)
words =
    codes "p" ∷ codes "q" ∷ codes "r" ∷ codes "b" ∷ codes "s" ∷ codes "z" ∷ codes "c" ∷ codes "x" ∷ codes "y" ∷ codes "k"
    ∷ codes "h" ∷ codes "a" ∷ codes "d" ∷ codes "sale" ∷ codes "hand" ∷ codes "A" ∷ codes "B" ∷ codes "C" ∷ codes "D" ∷ codes "S"
    ∷ codes "Buyer" ∷ codes "Seller" ∷ codes "From" ∷ codes "To" ∷ codes "go" ∷ codes "up" ∷ codes "down" ∷ codes "Loop" ∷ codes "Ping" ∷ codes "begin"
    ∷ []
