-- The digests of the definitions, row by row, as the second program prints them too (`second digests`).
use Rattle.std.specs.Prelude.{Bool, true, ◌&&◌, List, [], ◌∷◌, ℕ, eqb}
use Rattle.agreement.specs.Digest.{values_from, answers_from, pairs}

-- `values`: width, exponent size, first pattern, how many, the digest before and the digest after;
-- `answers`: width, exponent size, operation, the digest over all pairs of patterns
pub data Row : Type 0 where
  values : ℕ → ℕ → ℕ → ℕ → ℕ → ℕ → Row
  answers : ℕ → ℕ → ℕ → ℕ → Row

abbrev pub holds : Row → Bool
holds (values n es first count before after) = eqb (values_from n es count first before) after
holds (answers n es op after) = eqb (answers_from n es op (pairs n) 0 0) after

abbrev pub all : List Row → Bool
all [] = true
all (r ∷ rs) = holds r && all rs

-- every exponent size at widths 3 to 10
abbrev pub small : List Row
small =
    values 3 0 0 8 0 2062430068937772792
    ∷ values 3 1 0 8 0 1681447814082115219
    ∷ values 3 2 0 8 0 2117727839422396988
    ∷ values 4 0 0 16 0 96035091996653872
    ∷ values 4 1 0 16 0 1183936453343162146
    ∷ values 4 2 0 16 0 594103269594814144
    ∷ values 5 0 0 32 0 387563849276542782
    ∷ values 5 1 0 32 0 1640499314510006219
    ∷ values 5 2 0 32 0 276947132942940687
    ∷ values 6 0 0 64 0 716341951701475495
    ∷ values 6 1 0 64 0 314573362850426557
    ∷ values 6 2 0 64 0 543929571629890995
    ∷ values 7 0 0 128 0 2003957976254821227
    ∷ values 7 1 0 128 0 1455137889138293887
    ∷ values 7 2 0 128 0 807542766124514455
    ∷ values 8 0 0 256 0 1471692387565758401
    ∷ values 8 1 0 256 0 933074033540176494
    ∷ values 8 2 0 256 0 365695749822229901
    ∷ values 9 0 0 512 0 1305077660059406786
    ∷ values 9 1 0 512 0 412393605339559807
    ∷ values 9 2 0 512 0 905656077544716466
    ∷ values 10 0 0 1024 0 1254920083947687450
    ∷ values 10 1 0 1024 0 279287428526364817
    ∷ values 10 2 0 1024 0 1251220861312028490
    ∷ []

-- every operation at widths 3 to 5
abbrev pub operations : List Row
operations =
    answers 3 0 0 1897549966351840641
    ∷ answers 3 0 1 1367888863974659356
    ∷ answers 3 0 2 1118238059847347622
    ∷ answers 3 0 3 122556090187414023
    ∷ answers 3 1 0 2058389249671626791
    ∷ answers 3 1 1 1335517401238829783
    ∷ answers 3 1 2 1118238059847347622
    ∷ answers 3 1 3 122556090187414023
    ∷ answers 3 2 0 1010437555925252106
    ∷ answers 3 2 1 1010734743672241332
    ∷ answers 3 2 2 1118238059847347622
    ∷ answers 3 2 3 122556090187414023
    ∷ answers 4 0 0 1461439064627044550
    ∷ answers 4 0 1 762011771155644623
    ∷ answers 4 0 2 640711212669074199
    ∷ answers 4 0 3 1240994631443106557
    ∷ answers 4 1 0 49718517623919584
    ∷ answers 4 1 1 144486763014382139
    ∷ answers 4 1 2 640711212669074199
    ∷ answers 4 1 3 1842917339912669459
    ∷ answers 4 2 0 1800674893099067236
    ∷ answers 4 2 1 1039491591241846868
    ∷ answers 4 2 2 640711212669074199
    ∷ answers 4 2 3 1842917339912669459
    ∷ answers 5 0 0 1119304080309229601
    ∷ answers 5 0 1 708442450162408291
    ∷ answers 5 0 2 926200078791894923
    ∷ answers 5 0 3 570925423451691398
    ∷ answers 5 1 0 1734416353879646699
    ∷ answers 5 1 1 1013323057795408989
    ∷ answers 5 1 2 84648583736100114
    ∷ answers 5 1 3 867905516002173092
    ∷ answers 5 2 0 466328352661064610
    ∷ answers 5 2 1 1325454236036234199
    ∷ answers 5 2 2 84648583736100114
    ∷ answers 5 2 3 1433787480675891077
    ∷ []

-- width 16, a piece of the patterns each
abbrev pub piece0 : Row
piece0 = values 16 0 0 16384 0 1912053525554154345

abbrev pub piece1 : Row
piece1 = values 16 0 16384 16384 1912053525554154345 1114452541520761224

abbrev pub piece2 : Row
piece2 = values 16 0 32768 16384 1114452541520761224 1594483651392163937

abbrev pub piece3 : Row
piece3 = values 16 0 49152 16384 1594483651392163937 577625144128690767

abbrev pub piece4 : Row
piece4 = values 16 1 0 16384 0 1632392345750407609

abbrev pub piece5 : Row
piece5 = values 16 1 16384 16384 1632392345750407609 1712155036741696950

abbrev pub piece6 : Row
piece6 = values 16 1 32768 16384 1712155036741696950 136834649323841439

abbrev pub piece7 : Row
piece7 = values 16 1 49152 16384 136834649323841439 1935899575616863162

abbrev pub piece8 : Row
piece8 = values 16 2 0 16384 0 940087784963741927

abbrev pub piece9 : Row
piece9 = values 16 2 16384 16384 940087784963741927 1610208761502077645

abbrev pub piece10 : Row
piece10 = values 16 2 32768 16384 1610208761502077645 1583148280370077794

abbrev pub piece11 : Row
piece11 = values 16 2 49152 16384 1583148280370077794 1839260071478766370
