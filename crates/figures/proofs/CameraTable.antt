-- The table of the standard camera: one test of the whole table, computed, and one law that turns it into the rule at each entry. The test goes by the
-- bound worked upward: the most in n slots is the least, over the rows, of Q plus the most in n − m slots.
use mathlib.Core.Path.{◌≡◌, refl, sym, ◌∙◌, ap, ap₂}
use mathlib.Core.Bool.{Bool, true}
use mathlib.Core.List.{List, [], ◌∷◌}
use Prim.Native.Nat.{ℕ, zero, suc, ◌+◌, ◌-◌, ◌≤◌, ◌<◌, min}
use native.Mathlib.Nat.{add-zero, le_of_suc-le-suc, not-suc-le-zero}
use native.Mathlib.Omega.{arith}
use lib.Dec.{eqb}
use lib.ListN.{length, get_or}
use borrow.Author.Tests.{eqb-true}
use Rattle.quantity.specs.Choice.{both}
use Rattle.quantity.proofs.Sums.{both_true}
use Rattle.flow.specs.Rows.{Row, rows_most}
use Rattle.flow.specs.Declarations.{has_rows, several_at}
use Rattle.flow.specs.declared.Kind.{Kind}
use Rattle.flow.specs.declared.Declaration.{Declaration}
use Rattle.flow.proofs.RowsExample.{example_rows}
use Rattle.flow.proofs.Laws.{rows_none, rows-any, rows-some}
use Rattle.flow.proofs.Declarations.{most-same}
use Rattle.figures.specs.Cameras.{row_is, is_camera}
use Rattle.figures.specs.Carried.{HasBound, ReachesPast, most_before}
use Rattle.figures.proofs.ClassLaws.{has-bound}

abbrev most : ℕ → ℕ
most = rows_most example_rows 3

large : (i : ℕ) → i < 3 → 1 ≤ (example_rows i).interval
large zero less = omega arith
large (suc zero) less = omega arith
large (suc (suc i)) less = omega arith

-- the least, over the three rows, of Q plus the most in n − m slots
upward : (n : ℕ) → 1 ≤ n → most n ≡ min (9 + most (n - 1)) (min (15 + most (n - 3)) (48 + most (n - 12)))
upward n positive =
    let first = rows-any example_rows 3 (omega arith) large 0 (omega arith) n in
    let second = rows-any example_rows 3 (omega arith) large 1 (omega arith) n in
    let third = rows-any example_rows 3 (omega arith) large 2 (omega arith) n in
    by_row (rows-some example_rows 3 (omega arith) large n positive) first second third
  where
    by_row : (i : ℕ) × (i < 3) × (most n ≡ (example_rows i).quota + most (n - (example_rows i).interval))
        → most n ≤ 9 + most (n - 1) → most n ≤ 15 + most (n - 3) → most n ≤ 48 + most (n - 12)
        → most n ≡ min (9 + most (n - 1)) (min (15 + most (n - 3)) (48 + most (n - 12)))
    by_row (zero, less, reached) first second third = omega arith
    by_row (suc zero, less, reached) first second third = omega arith
    by_row (suc (suc i), less, reached) first second third = omega arith

-- the same from the entries before, the latest first
step : List ℕ → ℕ
step before = min (9 + get_or before 0 0) (min (15 + get_or before 2 0) (48 + get_or before 11 0))

-- each entry follows from those before it
follows : List ℕ → List ℕ → Bool
follows before [] = true
follows before (entry ∷ entries) = both (eqb entry (step before)) (follows (entry ∷ before) entries)

-- so it is the most in as many slots
follows-most : (entries before : List ℕ) (n : ℕ) → ((i : ℕ) → get_or before i 0 ≡ most (n - i)) → follows before entries ≡ true
    → (k : ℕ) → k < length entries → get_or entries k 0 ≡ most (suc (n + k))
unfolding follows step
follows-most [] before n held test k less = absurd (not-suc-le-zero less)
follows-most (entry ∷ entries) before n held test k less =
    let (here, rest) = both_true (eqb entry (step before)) (follows (entry ∷ before) entries) test in
    let made : entry ≡ most (suc n) =
    eqb-true entry (step before) here
    ∙ ap₂ min (ap (λ (x : ℕ). 9 + x) (held 0 ∙ ap most (omega arith)))
    (ap₂ min (ap (λ (x : ℕ). 15 + x) (held 2 ∙ ap most (omega arith))) (ap (λ (x : ℕ). 48 + x) (held 11 ∙ ap most (omega arith))))
    ∙ sym (upward (suc n) (omega arith)) in
    by_place k less made rest (follows-most entries (entry ∷ before) (suc n))
  where
    next : entry ≡ most (suc n) → (i : ℕ) → get_or (entry ∷ before) i 0 ≡ most (suc n - i)
    next made zero = made ∙ ap most (omega arith)
    next made (suc i) = held i ∙ ap most (omega arith)

    by_place : (k : ℕ) → k < length (entry ∷ entries) → entry ≡ most (suc n) → follows (entry ∷ before) entries ≡ true
        → (((i : ℕ) → get_or (entry ∷ before) i 0 ≡ most (suc n - i)) → follows (entry ∷ before) entries ≡ true → (k : ℕ) → k < length entries → get_or entries k 0 ≡ most (suc (suc n + k)))
        → get_or (entry ∷ entries) k 0 ≡ most (suc (n + k))
    by_place zero less made rest later = made ∙ ap (λ (j : ℕ). most (suc j)) (sym (add-zero n))
    by_place (suc k) less made rest later = later (next made) rest k (le_of_suc-le-suc less) ∙ ap most (omega arith)

unfoldable pub table : List ℕ
table = 9 ∷ 15 ∷ 15 ∷ 24 ∷ 30 ∷ 30 ∷ 39 ∷ 45 ∷ 45 ∷ 48 ∷ 48 ∷ 48 ∷ 57 ∷ 63 ∷ 63 ∷ 72 ∷ 78 ∷ 78 ∷ 87 ∷ 93 ∷ 93 ∷ 96 ∷ 96 ∷ 96 ∷ 105 ∷ 111 ∷ 111 ∷ 120 ∷ 126 ∷ 126 ∷ 135 ∷ 141 ∷ 141 ∷ 144 ∷ 144 ∷ 144 ∷ 153 ∷ 159 ∷ 159 ∷ 168 ∷ 174 ∷ 174 ∷ 183 ∷ 189 ∷ 189 ∷ 192 ∷ 192 ∷ 192 ∷ 201 ∷ 207 ∷ 207 ∷ 216 ∷ 222 ∷ 222 ∷ 231 ∷ 237 ∷ 237 ∷ 240 ∷ 240 ∷ 240 ∷ 249 ∷ 255 ∷ 255 ∷ 264 ∷ 270 ∷ 270 ∷ 279 ∷ 285 ∷ 285 ∷ 288 ∷ 288 ∷ 288 ∷ 297 ∷ 303 ∷ 303 ∷ 312 ∷ 318 ∷ 318 ∷ 327 ∷ 333 ∷ 333 ∷ 336 ∷ 336 ∷ 336 ∷ 345 ∷ 351 ∷ 351 ∷ 360 ∷ 366 ∷ 366 ∷ 375 ∷ 381 ∷ 381 ∷ 384 ∷ 384 ∷ 384 ∷ 393 ∷ 399 ∷ 399 ∷ 408 ∷ 414 ∷ 414 ∷ 423 ∷ 429 ∷ 429 ∷ 432 ∷ 432 ∷ 432 ∷ 441 ∷ 447 ∷ 447 ∷ 456 ∷ 462 ∷ 462 ∷ 471 ∷ 477 ∷ 477 ∷ 480 ∷ 480 ∷ 480 ∷ 489 ∷ 495 ∷ 495 ∷ 504 ∷ 510 ∷ 510 ∷ 519 ∷ 525 ∷ 525 ∷ 528 ∷ 528 ∷ 528 ∷ 537 ∷ 543 ∷ 543 ∷ 552 ∷ 558 ∷ 558 ∷ 567 ∷ 573 ∷ 573 ∷ 576 ∷ 576 ∷ 576 ∷ 585 ∷ 591 ∷ 591 ∷ 600 ∷ 606 ∷ 606 ∷ 615 ∷ 621 ∷ 621 ∷ 624 ∷ 624 ∷ 624 ∷ 633 ∷ 639 ∷ 639 ∷ 648 ∷ 654 ∷ 654 ∷ 663 ∷ 669 ∷ 669 ∷ 672 ∷ 672 ∷ 672 ∷ 681 ∷ 687 ∷ 687 ∷ 696 ∷ 702 ∷ 702 ∷ 711 ∷ 717 ∷ 717 ∷ 720 ∷ 720 ∷ 720 ∷ 729 ∷ 735 ∷ 735 ∷ 744 ∷ 750 ∷ 750 ∷ 759 ∷ 765 ∷ 765 ∷ 768 ∷ 768 ∷ 768 ∷ 777 ∷ 783 ∷ 783 ∷ 792 ∷ 798 ∷ 798 ∷ 807 ∷ 813 ∷ 813 ∷ 816 ∷ 816 ∷ 816 ∷ 825 ∷ 831 ∷ 831 ∷ 840 ∷ 846 ∷ 846 ∷ 855 ∷ 861 ∷ 861 ∷ 864 ∷ 864 ∷ 864 ∷ 873 ∷ 879 ∷ 879 ∷ 888 ∷ 894 ∷ 894 ∷ 903 ∷ 909 ∷ 909 ∷ 912 ∷ 912 ∷ 912 ∷ 921 ∷ 927 ∷ 927 ∷ 936 ∷ 942 ∷ 942 ∷ 951 ∷ 957 ∷ 957 ∷ 960 ∷ 960 ∷ 960 ∷ 969 ∷ 975 ∷ 975 ∷ 984 ∷ 990 ∷ 990 ∷ 999 ∷ 1005 ∷ 1005 ∷ 1008 ∷ 1008 ∷ 1008 ∷ 1017 ∷ 1023 ∷ 1023 ∷ 1032 ∷ 1038 ∷ 1038 ∷ 1047 ∷ 1053 ∷ 1053 ∷ 1056 ∷ 1056 ∷ 1056 ∷ 1065 ∷ 1071 ∷ 1071 ∷ 1080 ∷ 1086 ∷ 1086 ∷ 1095 ∷ 1101 ∷ 1101 ∷ 1104 ∷ 1104 ∷ 1104 ∷ 1113 ∷ 1119 ∷ 1119 ∷ 1128 ∷ 1134 ∷ 1134 ∷ 1143 ∷ 1149 ∷ 1149 ∷ 1152 ∷ 1152 ∷ 1152 ∷ 1161 ∷ 1167 ∷ 1167 ∷ 1176 ∷ 1182 ∷ 1182 ∷ 1191 ∷ 1197 ∷ 1197 ∷ 1200 ∷ 1200 ∷ 1200 ∷ 1209 ∷ 1215 ∷ 1215 ∷ 1224 ∷ 1230 ∷ 1230 ∷ 1239 ∷ 1245 ∷ 1245 ∷ 1248 ∷ 1248 ∷ 1248 ∷ 1257 ∷ 1263 ∷ 1263 ∷ 1272 ∷ 1278 ∷ 1278 ∷ 1287 ∷ 1293 ∷ 1293 ∷ 1296 ∷ 1296 ∷ 1296 ∷ 1305 ∷ 1311 ∷ 1311 ∷ 1320 ∷ 1326 ∷ 1326 ∷ 1335 ∷ 1341 ∷ 1341 ∷ 1344 ∷ 1344 ∷ 1344 ∷ 1353 ∷ 1359 ∷ 1359 ∷ 1368 ∷ 1374 ∷ 1374 ∷ 1383 ∷ 1389 ∷ 1389 ∷ 1392 ∷ 1392 ∷ 1392 ∷ 1401 ∷ 1407 ∷ 1407 ∷ 1416 ∷ 1422 ∷ 1422 ∷ 1431 ∷ 1437 ∷ 1437 ∷ 1440 ∷ 1440 ∷ 1440 ∷ 1449 ∷ 1455 ∷ 1455 ∷ 1464 ∷ 1470 ∷ 1470 ∷ 1479 ∷ 1485 ∷ 1485 ∷ 1488 ∷ 1488 ∷ 1488 ∷ 1497 ∷ 1503 ∷ 1503 ∷ 1512 ∷ 1518 ∷ 1518 ∷ 1527 ∷ 1533 ∷ 1533 ∷ 1536 ∷ 1536 ∷ 1536 ∷ 1545 ∷ 1551 ∷ 1551 ∷ 1560 ∷ 1566 ∷ 1566 ∷ 1575 ∷ 1581 ∷ 1581 ∷ 1584 ∷ 1584 ∷ 1584 ∷ 1593 ∷ 1599 ∷ 1599 ∷ 1608 ∷ 1614 ∷ 1614 ∷ 1623 ∷ 1629 ∷ 1629 ∷ 1632 ∷ 1632 ∷ 1632 ∷ 1641 ∷ 1647 ∷ 1647 ∷ 1656 ∷ 1662 ∷ 1662 ∷ 1671 ∷ 1677 ∷ 1677 ∷ 1680 ∷ 1680 ∷ 1680 ∷ 1689 ∷ 1695 ∷ 1695 ∷ 1704 ∷ 1710 ∷ 1710 ∷ 1719 ∷ 1725 ∷ 1725 ∷ 1728 ∷ 1728 ∷ 1728 ∷ 1737 ∷ 1743 ∷ 1743 ∷ 1752 ∷ 1758 ∷ 1758 ∷ 1767 ∷ 1773 ∷ 1773 ∷ 1776 ∷ 1776 ∷ 1776 ∷ 1785 ∷ 1791 ∷ 1791 ∷ 1800 ∷ 1806 ∷ 1806 ∷ 1815 ∷ 1821 ∷ 1821 ∷ 1824 ∷ 1824 ∷ 1824 ∷ 1833 ∷ 1839 ∷ 1839 ∷ 1848 ∷ 1854 ∷ 1854 ∷ 1863 ∷ 1869 ∷ 1869 ∷ 1872 ∷ 1872 ∷ 1872 ∷ 1881 ∷ 1887 ∷ 1887 ∷ 1896 ∷ 1902 ∷ 1902 ∷ 1911 ∷ 1917 ∷ 1917 ∷ 1920 ∷ 1920 ∷ 1920 ∷ 1929 ∷ 1935 ∷ 1935 ∷ 1944 ∷ 1950 ∷ 1950 ∷ 1959 ∷ 1965 ∷ 1965 ∷ 1968 ∷ 1968 ∷ 1968 ∷ 1977 ∷ 1983 ∷ 1983 ∷ 1992 ∷ 1998 ∷ 1998 ∷ 2007 ∷ 2013 ∷ 2013 ∷ 2016 ∷ 2016 ∷ 2016 ∷ 2025 ∷ 2031 ∷ 2031 ∷ 2040 ∷ 2046 ∷ 2046 ∷ 2055 ∷ 2061 ∷ 2061 ∷ 2064 ∷ 2064 ∷ 2064 ∷ 2073 ∷ 2079 ∷ 2079 ∷ 2088 ∷ 2094 ∷ 2094 ∷ 2103 ∷ 2109 ∷ 2109 ∷ 2112 ∷ 2112 ∷ 2112 ∷ 2121 ∷ 2127 ∷ 2127 ∷ 2136 ∷ 2142 ∷ 2142 ∷ 2151 ∷ 2157 ∷ 2157 ∷ 2160 ∷ 2160 ∷ 2160 ∷ 2169 ∷ 2175 ∷ 2175 ∷ 2184 ∷ 2190 ∷ 2190 ∷ 2199 ∷ 2205 ∷ 2205 ∷ 2208 ∷ 2208 ∷ 2208 ∷ 2217 ∷ 2223 ∷ 2223 ∷ 2232 ∷ 2238 ∷ 2238 ∷ 2247 ∷ 2253 ∷ 2253 ∷ 2256 ∷ 2256 ∷ 2256 ∷ 2265 ∷ 2271 ∷ 2271 ∷ 2280 ∷ 2286 ∷ 2286 ∷ 2295 ∷ 2301 ∷ 2301 ∷ 2304 ∷ 2304 ∷ 2304 ∷ 2313 ∷ 2319 ∷ 2319 ∷ 2328 ∷ 2334 ∷ 2334 ∷ 2343 ∷ 2349 ∷ 2349 ∷ 2352 ∷ 2352 ∷ 2352 ∷ 2361 ∷ 2367 ∷ 2367 ∷ 2376 ∷ 2382 ∷ 2382 ∷ 2391 ∷ 2397 ∷ 2397 ∷ 2400 ∷ 2400 ∷ 2400 ∷ 2409 ∷ 2415 ∷ 2415 ∷ 2424 ∷ 2430 ∷ 2430 ∷ 2439 ∷ 2445 ∷ 2445 ∷ 2448 ∷ 2448 ∷ 2448 ∷ 2457 ∷ 2463 ∷ 2463 ∷ 2472 ∷ 2478 ∷ 2478 ∷ 2487 ∷ 2493 ∷ 2493 ∷ 2496 ∷ 2496 ∷ 2496 ∷ 2505 ∷ 2511 ∷ 2511 ∷ 2520 ∷ 2526 ∷ 2526 ∷ 2535 ∷ 2541 ∷ 2541 ∷ 2544 ∷ 2544 ∷ 2544 ∷ 2553 ∷ 2559 ∷ 2559 ∷ 2568 ∷ 2574 ∷ 2574 ∷ 2583 ∷ 2589 ∷ 2589 ∷ 2592 ∷ 2592 ∷ 2592 ∷ 2601 ∷ 2607 ∷ 2607 ∷ 2616 ∷ 2622 ∷ 2622 ∷ 2631 ∷ 2637 ∷ 2637 ∷ 2640 ∷ 2640 ∷ 2640 ∷ 2649 ∷ 2655 ∷ 2655 ∷ 2664 ∷ 2670 ∷ 2670 ∷ 2679 ∷ 2685 ∷ 2685 ∷ 2688 ∷ 2688 ∷ 2688 ∷ 2697 ∷ 2703 ∷ 2703 ∷ 2712 ∷ 2718 ∷ 2718 ∷ 2727 ∷ 2733 ∷ 2733 ∷ 2736 ∷ 2736 ∷ 2736 ∷ 2745 ∷ 2751 ∷ 2751 ∷ 2760 ∷ 2766 ∷ 2766 ∷ 2775 ∷ 2781 ∷ 2781 ∷ 2784 ∷ 2784 ∷ 2784 ∷ 2793 ∷ 2799 ∷ 2799 ∷ 2808 ∷ 2814 ∷ 2814 ∷ 2823 ∷ 2829 ∷ 2829 ∷ 2832 ∷ 2832 ∷ 2832 ∷ 2841 ∷ 2847 ∷ 2847 ∷ 2856 ∷ 2862 ∷ 2862 ∷ 2871 ∷ 2877 ∷ 2877 ∷ 2880 ∷ 2880 ∷ 2880 ∷ 2889 ∷ 2895 ∷ 2895 ∷ 2904 ∷ 2910 ∷ 2910 ∷ 2919 ∷ 2925 ∷ 2925 ∷ 2928 ∷ 2928 ∷ 2928 ∷ 2937 ∷ 2943 ∷ 2943 ∷ 2952 ∷ 2958 ∷ 2958 ∷ 2967 ∷ 2973 ∷ 2973 ∷ 2976 ∷ 2976 ∷ 2976 ∷ 2985 ∷ 2991 ∷ 2991 ∷ 3000 ∷ 3006 ∷ 3006 ∷ 3015 ∷ 3021 ∷ 3021 ∷ 3024 ∷ 3024 ∷ 3024 ∷ 3033 ∷ 3039 ∷ 3039 ∷ 3048 ∷ 3054 ∷ 3054 ∷ 3063 ∷ 3069 ∷ 3069 ∷ 3072 ∷ 3072 ∷ 3072 ∷ 3081 ∷ 3087 ∷ 3087 ∷ 3096 ∷ 3102 ∷ 3102 ∷ 3111 ∷ 3117 ∷ 3117 ∷ 3120 ∷ 3120 ∷ 3120 ∷ 3129 ∷ 3135 ∷ 3135 ∷ 3144 ∷ 3150 ∷ 3150 ∷ 3159 ∷ 3165 ∷ 3165 ∷ 3168 ∷ 3168 ∷ 3168 ∷ 3177 ∷ 3183 ∷ 3183 ∷ 3192 ∷ 3198 ∷ 3198 ∷ 3207 ∷ 3213 ∷ 3213 ∷ 3216 ∷ 3216 ∷ 3216 ∷ 3225 ∷ 3231 ∷ 3231 ∷ 3240 ∷ 3246 ∷ 3246 ∷ 3255 ∷ 3261 ∷ 3261 ∷ 3264 ∷ 3264 ∷ 3264 ∷ 3273 ∷ 3279 ∷ 3279 ∷ 3288 ∷ 3294 ∷ 3294 ∷ 3303 ∷ 3309 ∷ 3309 ∷ 3312 ∷ 3312 ∷ 3312 ∷ 3321 ∷ 3327 ∷ 3327 ∷ 3336 ∷ 3342 ∷ 3342 ∷ 3351 ∷ 3357 ∷ 3357 ∷ 3360 ∷ 3360 ∷ 3360 ∷ 3369 ∷ 3375 ∷ 3375 ∷ 3384 ∷ 3390 ∷ 3390 ∷ 3399 ∷ 3405 ∷ 3405 ∷ 3408 ∷ 3408 ∷ 3408 ∷ 3417 ∷ 3423 ∷ 3423 ∷ 3432 ∷ 3438 ∷ 3438 ∷ 3447 ∷ 3453 ∷ 3453 ∷ 3456 ∷ 3456 ∷ 3456 ∷ 3465 ∷ 3471 ∷ 3471 ∷ 3480 ∷ 3486 ∷ 3486 ∷ 3495 ∷ 3501 ∷ 3501 ∷ 3504 ∷ 3504 ∷ 3504 ∷ 3513 ∷ 3519 ∷ 3519 ∷ 3528 ∷ 3534 ∷ 3534 ∷ 3543 ∷ 3549 ∷ 3549 ∷ 3552 ∷ 3552 ∷ 3552 ∷ 3561 ∷ 3567 ∷ 3567 ∷ 3576 ∷ 3582 ∷ 3582 ∷ 3591 ∷ 3597 ∷ 3597 ∷ 3600 ∷ 3600 ∷ 3600 ∷ 3609 ∷ 3615 ∷ 3615 ∷ 3624 ∷ 3630 ∷ 3630 ∷ 3639 ∷ 3645 ∷ 3645 ∷ 3648 ∷ 3648 ∷ 3648 ∷ 3657 ∷ 3663 ∷ 3663 ∷ 3672 ∷ 3678 ∷ 3678 ∷ 3687 ∷ 3693 ∷ 3693 ∷ 3696 ∷ 3696 ∷ 3696 ∷ 3705 ∷ 3711 ∷ 3711 ∷ 3720 ∷ 3726 ∷ 3726 ∷ 3735 ∷ 3741 ∷ 3741 ∷ 3744 ∷ 3744 ∷ 3744 ∷ 3753 ∷ 3759 ∷ 3759 ∷ 3768 ∷ 3774 ∷ 3774 ∷ 3783 ∷ 3789 ∷ 3789 ∷ 3792 ∷ 3792 ∷ 3792 ∷ 3801 ∷ 3807 ∷ 3807 ∷ 3816 ∷ 3822 ∷ 3822 ∷ 3831 ∷ 3837 ∷ 3837 ∷ 3840 ∷ 3840 ∷ 3840 ∷ 3849 ∷ 3855 ∷ 3855 ∷ 3864 ∷ 3870 ∷ 3870 ∷ 3879 ∷ 3885 ∷ 3885 ∷ 3888 ∷ 3888 ∷ 3888 ∷ 3897 ∷ 3903 ∷ 3903 ∷ 3912 ∷ 3918 ∷ 3918 ∷ 3927 ∷ 3933 ∷ 3933 ∷ 3936 ∷ 3936 ∷ 3936 ∷ 3945 ∷ 3951 ∷ 3951 ∷ 3960 ∷ 3966 ∷ 3966 ∷ 3975 ∷ 3981 ∷ 3981 ∷ 3984 ∷ 3984 ∷ 3984 ∷ 3993 ∷ 3999 ∷ 3999 ∷ 4008 ∷ 4014 ∷ 4014 ∷ 4023 ∷ 4029 ∷ 4029 ∷ 4032 ∷ 4032 ∷ 4032 ∷ 4041 ∷ 4047 ∷ 4047 ∷ 4056 ∷ 4062 ∷ 4062 ∷ 4071 ∷ 4077 ∷ 4077 ∷ 4080 ∷ 4080 ∷ 4080 ∷ 4089 ∷ 4095 ∷ 4095 ∷ 4104 ∷ []

-- all 1,024 entries, by one computed test
tested : follows [] table ≡ true
unfolding follows step table
tested = refl

sized : length table ≡ 1_024
unfolding table
sized = refl

none_before : (i : ℕ) → get_or {A = ℕ} [] i 0 ≡ most (0 - i)
none_before i = sym (rows_none example_rows 3) ∙ ap most (omega arith)

pub table-most : (k : ℕ) → k < 1_024 → get_or table k 0 ≡ rows_most example_rows 3 (suc k)
table-most k less = follows-most table [] 0 none_before tested k (rw sized less) ∙ ap (λ (j : ℕ). most (suc j)) (omega arith)

-- of a declaration of these rows it is the most that they allow
camera-row : (row : Row) (m Q : ℕ) → row_is row m Q ≡ true → row ≡ record { interval = m; quota = Q }
unfolding row_is
camera-row row m Q e =
    let (interval, quota) = both_true (eqb row.interval m) (eqb row.quota Q) e in
    λ i. record { interval = eqb-true row.interval m interval i; quota = eqb-true row.quota Q quota i }

record CameraDeclared (declared : Declaration) : Type 0 where
  pub count : declared.count ≡ 3
  pub row : (i : ℕ) → i < 3 → several_at declared i ≡ example_rows i

camera-declared : (declared : Declaration) → is_camera declared ≡ true → CameraDeclared declared
unfolding is_camera
camera-declared declared e =
    let (count, rest) = both_true (eqb declared.count 3) _ e in
    let (first, rest) = both_true (row_is (several_at declared 0) 1 9) _ rest in
    let (second, third) = both_true (row_is (several_at declared 1) 3 15) (row_is (several_at declared 2) 12 48) rest in
    record { count = eqb-true declared.count 3 count; row = λ i less. by_row first second third i less }
  where
    by_row : row_is (several_at declared 0) 1 9 ≡ true → row_is (several_at declared 1) 3 15 ≡ true → row_is (several_at declared 2) 12 48 ≡ true
        → (i : ℕ) → i < 3 → several_at declared i ≡ example_rows i
    by_row first second third zero less = camera-row (several_at declared 0) 1 9 first
    by_row first second third (suc zero) less = camera-row (several_at declared 1) 3 15 second
    by_row first second third (suc (suc zero)) less = camera-row (several_at declared 2) 12 48 third
    by_row first second third (suc (suc (suc i))) less = absurd (omega arith)

pub camera-most : (declared : Declaration) → is_camera declared ≡ true → (k : ℕ) → k < 1_024 → get_or table k 0 ≡ rows_most (several_at declared) declared.count (suc k)
camera-most declared e k less =
    let known = camera-declared declared e in
    table-most k less
    ∙ ap (λ (bound : ℕ → ℕ). bound (suc k)) (most-same example_rows (several_at declared) 3 (λ i row. sym (known.row i row)))
    ∙ ap (λ (count : ℕ). rows_most (several_at declared) count (suc k)) (sym known.count)

-- so it is their bound, in as many slots as figures ask for
pub camera-bound : (declared : Declaration) → has_rows declared.kind ≡ true → is_camera declared ≡ true → HasBound declared table
camera-bound declared several e = has-bound declared table several (omega (arith, sized)) (λ k less. camera-most declared e k (omega (arith, sized)))

pub camera-reaches : (declared : Declaration) → is_camera declared ≡ true → (slots : ℕ) → slots ≤ most_before → ReachesPast Kind.Rows declared table slots
camera-reaches declared e slots few = λ i less. omega (arith, sized, short i (rw known.count at less))
  where
    known : CameraDeclared declared
    known = camera-declared declared e

    short_row : (i : ℕ) → i < 3 → (example_rows i).interval ≤ 12
    short_row zero less = omega arith
    short_row (suc zero) less = omega arith
    short_row (suc (suc i)) less = omega arith

    short : (i : ℕ) → i < 3 → (several_at declared i).interval ≤ 12
    short i less = rw (known.row i less) (short_row i less)
