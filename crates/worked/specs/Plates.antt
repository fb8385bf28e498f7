-- The gliders of the worked cases: what was weighed, and their sheets.
use Rattle.std.specs.Prelude.{List, [], ◌∷◌, ℕ, ℤ, pos, neg_ℤ}
use Rattle.paper.specs.declared.Station.{Station}
use Rattle.paper.specs.declared.Weighing.{Weighing}
use Rattle.paper.specs.declared.Paired.{Paired}
use Rattle.paper.specs.declared.Sheet.{Sheet}
use Rattle.paper.specs.declared.Entry.{Entry}
use Rattle.paper.specs.declared.Entry.TheVariants as entry

abbrev pub minus : ℕ → ℤ
minus n = neg_ℤ (pos n)

abbrev pub station : ℤ → ℕ → ℕ → Station
station arm most step = record { arm = arm; most = most; step = step }

-- a weighing with n 0
abbrev pub weighing : ℕ → ℕ → ℕ → ℤ → ℕ → Weighing
weighing m p q a b = record { m = m; p = p; q = q; a = a; b = b; n = 0 }

-- the Blanik of document 000, and J's sheet for it
abbrev pub blanik : Weighing
blanik = weighing 1 310000 29900 (pos 9500) 550000

abbrev pub blanik_sheet : Sheet
blanik_sheet =
    record {
      fwd = pos 11200;
      aft = pos 30000;
      dry = 500000;
      wet = 500000;
      nlp = 0;
      front = station (minus 123200) 110000 1000;
      least = 0;
      rear = station (minus 11200) 110000 55000;
      water = station (pos 0) 0 1;
    }

-- the Astir, and its sheet with a front arm
abbrev pub astir : Weighing
astir = record { m = 1; p = 288000; q = 0; a = pos 63334; b = 500000; n = 140000 }

abbrev pub astir_sheet : ℤ → Sheet
astir_sheet arm =
    record {
      fwd = pos 25000;
      aft = pos 42500;
      dry = 380000;
      wet = 450000;
      nlp = 240000;
      front = station arm 110000 1000;
      least = 55000;
      rear = station (pos 0) 0 1;
      water = station (pos 30000) 100000 50000;
    }

-- the lists of G, H, I and J
abbrev pub G : List Entry
G = entry.Weighing astir ∷ entry.Sheet (astir_sheet (minus 47500)) ∷ []

abbrev pub H : List Entry
H = entry.Weighing astir ∷ entry.Sheet (astir_sheet (minus 47500)) ∷ entry.Change (record { c = pos 4500; arm = minus 100000; flag = 1 }) ∷ []

abbrev pub I : List Entry
I = entry.Weighing astir ∷ entry.Sheet (astir_sheet (pos 41625)) ∷ []

abbrev pub J : List Entry
J = entry.Weighing blanik ∷ entry.Sheet blanik_sheet ∷ []

-- two lists of paired weighings: the Astir with a gram more at the second reading, and with two equal readings
abbrev pub pair_of : Weighing → ℕ → ℕ → Paired
pair_of w p q = record { m = w.m; p = w.p; q = w.q; p2 = p; q2 = q; a = w.a; b = w.b; n = w.n }

abbrev pub astir_pair : Paired
astir_pair = pair_of astir 288001 0

abbrev pub gram_more : List Entry
gram_more = entry.Paired astir_pair ∷ entry.Sheet (astir_sheet (minus 47500)) ∷ []

abbrev pub equals : List Entry
equals = entry.Paired (pair_of astir 288000 0) ∷ entry.Sheet (astir_sheet (minus 47500)) ∷ []

-- G and J with a seat behind the sheet, and J's glider weighed behind both; G's seat ended by a sheet
abbrev pub seat : ℤ → ℤ → Entry
seat lower higher = entry.Seat (record { lower = lower; higher = higher })

abbrev pub G_between : ℤ → ℤ → List Entry
G_between lower higher = entry.Weighing astir ∷ entry.Sheet (astir_sheet (minus 47500)) ∷ seat lower higher ∷ []

abbrev pub J_between : ℤ → ℤ → List Entry
J_between lower higher = entry.Weighing blanik ∷ entry.Sheet blanik_sheet ∷ seat lower higher ∷ []

abbrev pub J_weighed : ℤ → ℤ → List Entry
J_weighed lower higher = entry.Sheet blanik_sheet ∷ seat lower higher ∷ entry.Weighing blanik ∷ []

abbrev pub G_ended : ℤ → ℤ → List Entry
G_ended lower higher =
    entry.Weighing astir ∷
    entry.Sheet (astir_sheet (minus 47500)) ∷
    seat lower higher ∷
    entry.Sheet (astir_sheet (minus 47500)) ∷ []

-- two lists beside the paper's, with loads that are no whole kilograms: the Astir with the front load in quarters of a kilogram
abbrev pub quarters : List Entry
quarters =
    entry.Weighing astir ∷
    entry.Sheet
    (record {
      fwd = pos 25000;
      aft = pos 42500;
      dry = 380000;
      wet = 400000;
      nlp = 240000;
      front = station (minus 47500) 91375 250;
      least = 55125;
      rear = station (pos 5000) 24689 12345;
      water = station (pos 30000) 40000 33333;
    }) ∷ []

-- and D's weighing, 445 g, with loads by the gram
abbrev pub grams : List Entry
grams =
    entry.Weighing (weighing 3 355 90 (pos 50) 13350) ∷
    entry.Sheet
    (record {
      fwd = pos 2400;
      aft = pos 2600;
      dry = 480;
      wet = 500;
      nlp = 0;
      front = station (minus 2000) 29 1;
      least = 4;
      rear = station (pos 3000) 3 3;
      water = station (pos 1000) 20 7;
    }) ∷ []

-- a glider of 200 g that balances anywhere, with 50 g to spare for both seats and the water, and a least front load of 0
abbrev pub spare_sheet : Sheet
spare_sheet =
    record {
      fwd = minus 1000;
      aft = pos 1000;
      dry = 250;
      wet = 250;
      nlp = 0;
      front = station (pos 0) 100 25;
      least = 0;
      rear = station (pos 0) 50 25;
      water = station (pos 0) 50 50;
    }

abbrev pub spare : List Entry
spare = entry.Weighing (weighing 1 200 0 (pos 0) 1) ∷ entry.Sheet spare_sheet ∷ []
