-- A number's bytes, high first: written one before the other, read one after the other, and that they determine it. One law over the width. Assumes nothing.
use mathlib.Core.List.{List, [], ◌++◌, ◌∷◌, head-eq_of_cons-eq}
use mathlib.Core.Path.{◌∙◌, ◌≡◌, ap, refl, subst, sym}
use Prim.Native.Nat.{◌%◌, ◌*◌, ◌+◌, ◌-◌, ◌/◌, ◌<◌, ◌^◌, ◌≤◌, suc, zero, ℕ}
use native.Mathlib.Nat.{lt_of_lt_of_le}
use native.Mathlib.Numerals.{add-one}
use native.Mathlib.Omega.{arith}
use lib.Arith.{digits_div, digits_lt, digits_mod}
use lib.Dec.{lit<}
use lib.ListN.{drop, get_or, length, length-append, length-drop, set, take, take-append-drop}
use lib.Pow.{pow-add, pow_mono, shr_lt}
use lib.Seq.{drop_at, drop-drop, get_or-drop, get_or-take, length-take-le, take_at, take-suc}
use Rattle.cbor.specs.Bytes.{HighFirstAt, Got, high_first, put}
use Rattle.cbor.proofs.Writing.{put_front, put_nil, set_put}

pub length_high_first : (n x : ℕ) → length (high_first n x) ≡ n
unfolding high_first
length_high_first zero x = refl
length_high_first (suc n) x = rw (length-append, length_high_first n (x / 256), add-one)

-- one byte of a number, written before the higher ones
put_high_first_suc : (l : List ℕ) (p i y : ℕ) → p + suc i ≤ length l → put (set l (p + i) (y % 256)) p (high_first i (y / 256)) ≡ put l p (high_first (suc i) y)
unfolding high_first
put_high_first_suc l p i y h =
    let e : length (high_first i (y / 256)) ≡ i = length_high_first i (y / 256) in
    rw (set_put l (p + i) (y % 256) (omega arith))
    (subst (λ (k : ℕ). put (put l (p + k) (y % 256 ∷ [])) p (high_first i (y / 256)) ≡ put l p (high_first i (y / 256) ++ (y % 256 ∷ []))) e
    (put_front l p (high_first i (y / 256)) (y % 256 ∷ []) (omega arith)))

pub put_high_first : (l : List ℕ) (p i y : ℕ) → 0 < i → p + i ≤ length l → put (set l (p + (i - 1)) (y % 256)) p (high_first (i - 1) (y / 256)) ≡ put l p (high_first i y)
put_high_first l p zero y z h = absurd (omega arith)
put_high_first l p (suc i) y z h = rw (suc_sub_one i) (put_high_first_suc l p i y h)
  where
    suc_sub_one : (k : ℕ) → suc k - 1 ≡ k
    suc_sub_one k = omega arith

pub put_high_first_done : (l : List ℕ) (p i y : ℕ) → i ≤ 0 → put l p (high_first i y) ≡ l
unfolding high_first
put_high_first_done l p zero y h = put_nil l p
put_high_first_done l p (suc i) y h = absurd (omega arith)

-- one byte more of a number, read high first
high_first_snoc : (i v b : ℕ) → b < 256 → high_first (i + 1) (v * 256 + b) ≡ high_first i v ++ (b ∷ [])
unfolding high_first
high_first_snoc i v b h = rw (add-one, digits_div v h, digits_mod v h)

grown : (i v b : ℕ) → v < 2 ^ (8 * i) → b < 256 → v * 256 + b < 2 ^ (8 * (i + 1))
grown i v b hv hb = rw (le_eq i, pow-add 2 (8 * i) 8) (digits_lt hv hb)
  where
    le_eq : (k : ℕ) → 8 * (k + 1) ≡ 8 * k + 8
    le_eq k = omega arith

below_word : (i v : ℕ) → i ≤ 8 → v < 2 ^ (8 * i) → v < 2 ^ 64
below_word i v h hv = lt_of_lt_of_le hv (pow_mono {i = 8 * i} {j = 64} (omega arith))

-- one element more of a part
part_more : (s : List ℕ) (p i : ℕ) → p + i < length s → take (i + 1) (drop p s) ≡ take i (drop p s) ++ (get_or s (p + i) 0 ∷ [])
part_more s p i h =
    let l : i < length (drop p s) = omega (arith, length-drop p s) in
    rw (add-one, take-suc (drop p s) i 0 l, get_or-drop p s i 0)

-- a part has as many elements as were asked for, and they are those of its list
pub part_length : (s : List ℕ) (p n : ℕ) → p + n ≤ length s → length (take (p + n - p) (drop p s)) ≡ n
part_length s p n l = length-take-le (p + n - p) (drop p s) (omega (arith, length-drop p s)) ∙ omega arith

pub part_entry : (s : List ℕ) (p n i : ℕ) → i < n → get_or (take (p + n - p) (drop p s)) i 0 ≡ get_or s (p + i) 0
part_entry s p n i h = let m : i < p + n - p = omega arith in rw (get_or-take, get_or-drop) refl

pub high_first_none : (s : List ℕ) (p : ℕ) → HighFirstAt s p 0 0
unfolding high_first
high_first_none s p = record { fits = lit< tt; written = refl }

pub high_first_more : (s : List ℕ) (p i y : ℕ) → HighFirstAt s p i y → p + i < length s → get_or s (p + i) 0 < 256 → HighFirstAt s p (i + 1) (y * 256 + get_or s (p + i) 0)
high_first_more s p i y v h hb =
    record {
      fits = grown i y _ v.fits hb;
      written = high_first_snoc i y _ hb ∙ ap (λ (l : List ℕ). l ++ (get_or s (p + i) 0 ∷ [])) v.written ∙ sym (part_more s p i h);
    }

pub word_more : {s : List ℕ} {p : ℕ} (i y b : ℕ) → HighFirstAt s p i y → i < 8 → b < 256 → y * 256 + b < 2 ^ 64
word_more i y b v h hb = below_word (i + 1) _ (omega arith) (grown i y b v.fits hb)

-- two lists that begin with parts of one length begin with the same part
pub app_inj : (xs ys u v : List ℕ) → length xs ≡ length ys → xs ++ u ≡ ys ++ v → (xs ≡ ys) × (u ≡ v)
app_inj xs ys u v l e = (
  sym (take_at xs u (length xs) refl) ∙ ap (take (length xs)) e ∙ take_at ys v (length xs) (sym l),
  sym (drop_at xs u (length xs) refl) ∙ ap (drop (length xs)) e ∙ drop_at ys v (length xs) (sym l),
)

-- the bytes determine the number
pub high_first_inj : (n a b : ℕ) → a < 2 ^ (8 * n) → b < 2 ^ (8 * n) → high_first n a ≡ high_first n b → a ≡ b
unfolding high_first
high_first_inj zero a b ha hb e = omega arith
high_first_inj (suc n) a b ha hb e =
    let k : 8 * suc n ≡ 8 * n + 8 = omega arith in
    let p = app_inj (high_first n (a / 256)) (high_first n (b / 256)) (a % 256 ∷ []) (b % 256 ∷ []) (length_high_first n (a / 256) ∙ sym (length_high_first n (b / 256))) e in
    let q : a / 256 ≡ b / 256 = high_first_inj n (a / 256) (b / 256) (shr_lt (8 * n) 8 (rw k at ha)) (shr_lt (8 * n) 8 (rw k at hb)) p.0 in
    let m : a % 256 ≡ b % 256 = head-eq_of_cons-eq p.1 in
    omega arith

-- the bytes that were read stand there
pub got_high_first : (s : List ℕ) (p n x : ℕ) → HighFirstAt s p n x → p + n ≤ length s → Got s p (high_first n x) (p + n)
got_high_first s p n x v l =
    record {
      here = sym (take-append-drop n (drop p s)) ∙ ap (λ (z : List ℕ). z ++ drop n (drop p s)) (sym v.written) ∙ ap (λ (z : List ℕ). high_first n x ++ z) (drop-drop n p s);
      next = ap (λ (k : ℕ). p + k) (sym (length_high_first n x));
      within = l;
    }

-- where n bytes stand, n are left
pub enough : (s : List ℕ) (p n x : ℕ) (r : List ℕ) → drop p s ≡ high_first n x ++ r → n ≤ length s - p
enough s p n x r e = omega (arith, simp (length-append, length-drop) at (ap length e), length_high_first n x)
