-- The code's tables are those of the definition: the rule of each by one test that antt computes over the whole table. Assumes nothing.
use mathlib.Core.Path.{◌≡◌, refl, sym, ap, ◌∙◌}
use mathlib.Core.Bool.{Bool}
use mathlib.Core.List.{List, [], ◌∷◌}
use Prim.Native.Nat.{ℕ, zero, suc, ◌<◌}
use native.Mathlib.Omega.{arith}
use lib.Dec.{T, eqb, eqb→eq, ltb, ltb→lt}
use lib.ListN.{get_or}
use borrow.Author.Tests.{eq-eqb, ne_eqb}
use Rattle.laws.proofs.Finite.{both, both_left, both_right, all, all-at, equal-below}
use Rattle.laws.proofs.First.{first-at}
use Rattle.laws.proofs.Tabulate.{get_d_tabulate, is-tabulate}
use Rattle.galois.specs.Field.{α, sum, timesα, power}
use Rattle.galois.specs.Tables.{log, power_table, log_table}
use Rattle.galois.proofs.Product.{α-product}
use Rattle.galois.proofs.Power.{power-byte}

unfoldable pub power_list : List ℕ
power_list =
    1 ∷ 2 ∷ 4 ∷ 8 ∷ 16 ∷ 32 ∷ 64 ∷ 128 ∷ 29 ∷ 58 ∷ 116 ∷ 232 ∷ 205 ∷ 135 ∷ 19 ∷ 38 ∷
    76 ∷ 152 ∷ 45 ∷ 90 ∷ 180 ∷ 117 ∷ 234 ∷ 201 ∷ 143 ∷ 3 ∷ 6 ∷ 12 ∷ 24 ∷ 48 ∷ 96 ∷ 192 ∷
    157 ∷ 39 ∷ 78 ∷ 156 ∷ 37 ∷ 74 ∷ 148 ∷ 53 ∷ 106 ∷ 212 ∷ 181 ∷ 119 ∷ 238 ∷ 193 ∷ 159 ∷ 35 ∷
    70 ∷ 140 ∷ 5 ∷ 10 ∷ 20 ∷ 40 ∷ 80 ∷ 160 ∷ 93 ∷ 186 ∷ 105 ∷ 210 ∷ 185 ∷ 111 ∷ 222 ∷ 161 ∷
    95 ∷ 190 ∷ 97 ∷ 194 ∷ 153 ∷ 47 ∷ 94 ∷ 188 ∷ 101 ∷ 202 ∷ 137 ∷ 15 ∷ 30 ∷ 60 ∷ 120 ∷ 240 ∷
    253 ∷ 231 ∷ 211 ∷ 187 ∷ 107 ∷ 214 ∷ 177 ∷ 127 ∷ 254 ∷ 225 ∷ 223 ∷ 163 ∷ 91 ∷ 182 ∷ 113 ∷ 226 ∷
    217 ∷ 175 ∷ 67 ∷ 134 ∷ 17 ∷ 34 ∷ 68 ∷ 136 ∷ 13 ∷ 26 ∷ 52 ∷ 104 ∷ 208 ∷ 189 ∷ 103 ∷ 206 ∷
    129 ∷ 31 ∷ 62 ∷ 124 ∷ 248 ∷ 237 ∷ 199 ∷ 147 ∷ 59 ∷ 118 ∷ 236 ∷ 197 ∷ 151 ∷ 51 ∷ 102 ∷ 204 ∷
    133 ∷ 23 ∷ 46 ∷ 92 ∷ 184 ∷ 109 ∷ 218 ∷ 169 ∷ 79 ∷ 158 ∷ 33 ∷ 66 ∷ 132 ∷ 21 ∷ 42 ∷ 84 ∷
    168 ∷ 77 ∷ 154 ∷ 41 ∷ 82 ∷ 164 ∷ 85 ∷ 170 ∷ 73 ∷ 146 ∷ 57 ∷ 114 ∷ 228 ∷ 213 ∷ 183 ∷ 115 ∷
    230 ∷ 209 ∷ 191 ∷ 99 ∷ 198 ∷ 145 ∷ 63 ∷ 126 ∷ 252 ∷ 229 ∷ 215 ∷ 179 ∷ 123 ∷ 246 ∷ 241 ∷ 255 ∷
    227 ∷ 219 ∷ 171 ∷ 75 ∷ 150 ∷ 49 ∷ 98 ∷ 196 ∷ 149 ∷ 55 ∷ 110 ∷ 220 ∷ 165 ∷ 87 ∷ 174 ∷ 65 ∷
    130 ∷ 25 ∷ 50 ∷ 100 ∷ 200 ∷ 141 ∷ 7 ∷ 14 ∷ 28 ∷ 56 ∷ 112 ∷ 224 ∷ 221 ∷ 167 ∷ 83 ∷ 166 ∷
    81 ∷ 162 ∷ 89 ∷ 178 ∷ 121 ∷ 242 ∷ 249 ∷ 239 ∷ 195 ∷ 155 ∷ 43 ∷ 86 ∷ 172 ∷ 69 ∷ 138 ∷ 9 ∷
    18 ∷ 36 ∷ 72 ∷ 144 ∷ 61 ∷ 122 ∷ 244 ∷ 245 ∷ 247 ∷ 243 ∷ 251 ∷ 235 ∷ 203 ∷ 139 ∷ 11 ∷ 22 ∷
    44 ∷ 88 ∷ 176 ∷ 125 ∷ 250 ∷ 233 ∷ 207 ∷ 131 ∷ 27 ∷ 54 ∷ 108 ∷ 216 ∷ 173 ∷ 71 ∷ 142 ∷ 1 ∷ []

unfoldable pub log_list : List ℕ
log_list =
    0 ∷ 0 ∷ 1 ∷ 25 ∷ 2 ∷ 50 ∷ 26 ∷ 198 ∷ 3 ∷ 223 ∷ 51 ∷ 238 ∷ 27 ∷ 104 ∷ 199 ∷ 75 ∷
    4 ∷ 100 ∷ 224 ∷ 14 ∷ 52 ∷ 141 ∷ 239 ∷ 129 ∷ 28 ∷ 193 ∷ 105 ∷ 248 ∷ 200 ∷ 8 ∷ 76 ∷ 113 ∷
    5 ∷ 138 ∷ 101 ∷ 47 ∷ 225 ∷ 36 ∷ 15 ∷ 33 ∷ 53 ∷ 147 ∷ 142 ∷ 218 ∷ 240 ∷ 18 ∷ 130 ∷ 69 ∷
    29 ∷ 181 ∷ 194 ∷ 125 ∷ 106 ∷ 39 ∷ 249 ∷ 185 ∷ 201 ∷ 154 ∷ 9 ∷ 120 ∷ 77 ∷ 228 ∷ 114 ∷ 166 ∷
    6 ∷ 191 ∷ 139 ∷ 98 ∷ 102 ∷ 221 ∷ 48 ∷ 253 ∷ 226 ∷ 152 ∷ 37 ∷ 179 ∷ 16 ∷ 145 ∷ 34 ∷ 136 ∷
    54 ∷ 208 ∷ 148 ∷ 206 ∷ 143 ∷ 150 ∷ 219 ∷ 189 ∷ 241 ∷ 210 ∷ 19 ∷ 92 ∷ 131 ∷ 56 ∷ 70 ∷ 64 ∷
    30 ∷ 66 ∷ 182 ∷ 163 ∷ 195 ∷ 72 ∷ 126 ∷ 110 ∷ 107 ∷ 58 ∷ 40 ∷ 84 ∷ 250 ∷ 133 ∷ 186 ∷ 61 ∷
    202 ∷ 94 ∷ 155 ∷ 159 ∷ 10 ∷ 21 ∷ 121 ∷ 43 ∷ 78 ∷ 212 ∷ 229 ∷ 172 ∷ 115 ∷ 243 ∷ 167 ∷ 87 ∷
    7 ∷ 112 ∷ 192 ∷ 247 ∷ 140 ∷ 128 ∷ 99 ∷ 13 ∷ 103 ∷ 74 ∷ 222 ∷ 237 ∷ 49 ∷ 197 ∷ 254 ∷ 24 ∷
    227 ∷ 165 ∷ 153 ∷ 119 ∷ 38 ∷ 184 ∷ 180 ∷ 124 ∷ 17 ∷ 68 ∷ 146 ∷ 217 ∷ 35 ∷ 32 ∷ 137 ∷ 46 ∷
    55 ∷ 63 ∷ 209 ∷ 91 ∷ 149 ∷ 188 ∷ 207 ∷ 205 ∷ 144 ∷ 135 ∷ 151 ∷ 178 ∷ 220 ∷ 252 ∷ 190 ∷ 97 ∷
    242 ∷ 86 ∷ 211 ∷ 171 ∷ 20 ∷ 42 ∷ 93 ∷ 158 ∷ 132 ∷ 60 ∷ 57 ∷ 83 ∷ 71 ∷ 109 ∷ 65 ∷ 162 ∷
    31 ∷ 45 ∷ 67 ∷ 216 ∷ 183 ∷ 123 ∷ 164 ∷ 118 ∷ 196 ∷ 23 ∷ 73 ∷ 236 ∷ 127 ∷ 12 ∷ 111 ∷ 246 ∷
    108 ∷ 161 ∷ 59 ∷ 82 ∷ 41 ∷ 157 ∷ 85 ∷ 170 ∷ 251 ∷ 96 ∷ 134 ∷ 177 ∷ 187 ∷ 204 ∷ 62 ∷ 90 ∷
    203 ∷ 89 ∷ 95 ∷ 176 ∷ 156 ∷ 169 ∷ 160 ∷ 81 ∷ 11 ∷ 245 ∷ 22 ∷ 235 ∷ 122 ∷ 117 ∷ 44 ∷ 215 ∷
    79 ∷ 174 ∷ 213 ∷ 233 ∷ 230 ∷ 231 ∷ 173 ∷ 232 ∷ 116 ∷ 214 ∷ 244 ∷ 234 ∷ 168 ∷ 80 ∷ 88 ∷ 175 ∷ []

-- ---- the powers: the first is 1, and each other is α times the one before

powers-first : get_or power_list 0 0 ≡ 1
unfolding power_list
powers-first = refl

powers-climb : T (all 255 (λ k. eqb (get_or power_list (suc k) 0) (timesα (get_or power_list k 0))))
unfolding all power_list timesα sum
powers-climb = tt

powers-right : (k : ℕ) → k < 256 → get_or power_list k 0 ≡ power α k
unfolding power
powers-right zero h = powers-first
powers-right (suc k) h =
    equal-below 255 (λ k. get_or power_list (suc k) 0) (λ k. timesα (get_or power_list k 0)) powers-climb k (omega arith)
    ∙ ap timesα (powers-right k (omega arith))
    ∙ sym (α-product (power α k) (power-byte α k))

pub powers-table : power_list ≡ power_table
unfolding power_list power_table
powers-table = is-tabulate 0 256 (power α) power_list refl powers-right

pub powers-at : (k : ℕ) → k < 256 → get_or power_table k 0 ≡ power α k
unfolding power_table
powers-at k h = get_d_tabulate 256 (power α) k 0 h

-- ---- the logarithms: that of k + 1 is below 255, and its place among the powers; and that of α^k is k, so that it has no other place

logs-test : ℕ → Bool
logs-test k =
    both (ltb (get_or log_list (suc k) 0) 255)
    (both (eqb (get_or power_list (get_or log_list (suc k) 0) 0) (suc k)) (eqb (get_or log_list (get_or power_list k 0) 0) k))

logs-tested : T (all 255 logs-test)
unfolding all logs-test power_list log_list
logs-tested = tt

module _ (k : ℕ) (h : k < 255) where
  places : T (both (eqb (get_or power_list (get_or log_list (suc k) 0) 0) (suc k)) (eqb (get_or log_list (get_or power_list k 0) 0) k))
  unfolding logs-test
  places =
      both_right (ltb (get_or log_list (suc k) 0) 255)
      (both (eqb (get_or power_list (get_or log_list (suc k) 0) 0) (suc k)) (eqb (get_or log_list (get_or power_list k 0) 0) k)) (all-at 255 logs-test logs-tested k h)

  small : get_or log_list (suc k) 0 < 255
  unfolding logs-test
  small =
      ltb→lt (get_or log_list (suc k) 0) 255
      (both_left (ltb (get_or log_list (suc k) 0) 255)
      (both (eqb (get_or power_list (get_or log_list (suc k) 0) 0) (suc k)) (eqb (get_or log_list (get_or power_list k 0) 0) k)) (all-at 255 logs-test logs-tested k h))

  place : power α (get_or log_list (suc k) 0) ≡ suc k
  place =
      sym (powers-right (get_or log_list (suc k) 0) (omega (arith, small)))
      ∙ eqb→eq (get_or power_list (get_or log_list (suc k) 0) 0) (suc k)
      (both_left (eqb (get_or power_list (get_or log_list (suc k) 0) 0) (suc k)) (eqb (get_or log_list (get_or power_list k 0) 0) k) places)

  back : get_or log_list (power α k) 0 ≡ k
  back =
      ap (λ (x : ℕ). get_or log_list x 0) (sym (powers-right k (omega arith)))
      ∙ eqb→eq (get_or log_list (get_or power_list k 0) 0) k
      (both_right (eqb (get_or power_list (get_or log_list (suc k) 0) 0) (suc k)) (eqb (get_or log_list (get_or power_list k 0) 0) k) places)

pub α-distinct : (i j : ℕ) → i < 255 → j < 255 → power α i ≡ power α j → i ≡ j
α-distinct i j hi hj e = sym (back i hi) ∙ ap (λ (x : ℕ). get_or log_list x 0) e ∙ back j hj

log-first : (a : ℕ) → a < 255 → get_or log_list (suc a) 0 ≡ log (suc a)
unfolding log
log-first a h =
    sym
    (first-at 255 (λ k. eqb (power α k) (suc a)) (get_or log_list (suc a) 0) (small a h)
    (record { fails = λ k lower. ne_eqb (power α k) (suc a) (λ e. other k lower (e ∙ sym (place a h))) })
    (eq-eqb (power α (get_or log_list (suc a) 0)) (suc a) (place a h)))
  where
    other : (k : ℕ) → k < get_or log_list (suc a) 0 → power α k ≡ power α (get_or log_list (suc a) 0) → ⊥
    other k lower e = omega (arith, α-distinct k (get_or log_list (suc a) 0) (omega (arith, small a h)) (small a h) e)

log-zero : get_or log_list 0 0 ≡ log 0
unfolding log_list log
log-zero = refl

logs-right : (a : ℕ) → a < 256 → get_or log_list a 0 ≡ log a
logs-right zero h = log-zero
logs-right (suc a) h = log-first a (omega arith)

pub logs-table : log_list ≡ log_table
unfolding log_list log_table
logs-table = is-tabulate 0 256 log log_list refl logs-right

pub logs_at : (a : ℕ) → a < 256 → get_or log_table a 0 ≡ log a
unfolding log_table
logs_at a h = get_d_tabulate 256 log a 0 h

-- the logarithm of an element other than 0
pub log-small : (a : ℕ) → 0 < a → a < 256 → log a < 255
log-small zero h below = absurd (omega arith)
log-small (suc a) h below = rw (← (log-first a (omega arith))) (small a (omega arith))

pub power-log : (a : ℕ) → 0 < a → a < 256 → power α (log a) ≡ a
power-log zero h below = absurd (omega arith)
power-log (suc a) h below = ap (power α) (sym (log-first a (omega arith))) ∙ place a (omega arith)

-- ---- single entries

pub powers-last : get_or power_table 255 0 ≡ 1
unfolding power_list
powers-last = ap (λ (l : List ℕ). get_or l 255 0) (sym powers-table)

pub logs-one : get_or log_table 1 0 ≡ 0
unfolding log_list
logs-one = ap (λ (l : List ℕ). get_or l 1 0) (sym logs-table)

pub logs-zero : get_or log_table 0 0 ≡ 0
unfolding log_list
logs-zero = ap (λ (l : List ℕ). get_or l 0 0) (sym logs-table)

pub α-cycle : power α 255 ≡ 1
α-cycle = sym (powers-at 255 (omega arith)) ∙ powers-last
