-- Packing and unpacking undo each other.
use Rattle.std.proofs.Common.{◌≡◌, ℕ, zero, suc, ◌*◌, ◌/◌, ◌%◌, ◌<◌, ◌≤◌, true, eqb, leb, List, [], ◌∷◌, length, get_or, take, drop, refl, ap, ◌∙◌, arith}
use Rattle.std.specs.List.{AllByRecursion}
use Rattle.std.proofs.lemmas.Bool.{and_parts, and_from, eqb-true, eq-eqb, leb-true, le-leb}
use Rattle.std.proofs.ByRecursion.{All-take, All-drop, All-append}
use Rattle.text.specs.Groups.{grouped}
use Rattle.text.specs.Text.{letter?, letters?, text?, packed?, packed, unpacked, letter_of, bits_of_letters, bits_of_bytes, three_bytes, four_letters, ReadsBack, PacksAgain}
use Rattle.text.proofs.Groups.{length_grouped, regrouped}

abbrev Letter : ℕ → Type 0
Letter l = (32 ≤ l) × (l ≤ 95)

abbrev Byte : ℕ → Type 0
Byte b = b < 256

abbrev pack4 : List ℕ → List ℕ
pack4 t = three_bytes (bits_of_letters t)

abbrev unpack3 : List ℕ → List ℕ
unpack3 p = four_letters (bits_of_bytes p)

letter_back : (l : ℕ) → Letter l → letter_of (l % 64) ≡ l
letter_back l h = omega arith

six_back : (v : ℕ) → v < 64 → letter_of v % 64 ≡ v
six_back v h = omega arith

bytes_bits : (g : ℕ) → bits_of_bytes (three_bytes g) ≡ g
bytes_bits g = omega arith

letters_bits : (g : ℕ) → g < 16777216 → bits_of_letters (four_letters g) ≡ g
letters_bits g h =
    let a : letter_of (g / 262144) % 64 ≡ g / 262144 = six_back (g / 262144) (omega arith) in
    let b : letter_of (g / 4096 % 64) % 64 ≡ g / 4096 % 64 = six_back (g / 4096 % 64) (omega arith) in
    let c : letter_of (g / 64 % 64) % 64 ≡ g / 64 % 64 = six_back (g / 64 % 64) (omega arith) in
    let d : letter_of (g % 64) % 64 ≡ g % 64 = six_back (g % 64) (omega arith) in
    rw (a, b, c, d) (omega arith)

unpack_pack : (t : List ℕ) → length t ≡ 4 → AllByRecursion Letter t → unpack3 (pack4 t) ≡ t
unpack_pack [] l h = absurd (omega arith)
unpack_pack (a ∷ []) l h = absurd (omega arith)
unpack_pack (a ∷ b ∷ []) l h = absurd (omega arith)
unpack_pack (a ∷ b ∷ c ∷ []) l h = absurd (omega arith)
unpack_pack (a ∷ b ∷ c ∷ d ∷ e ∷ t) l h = absurd (omega arith)
unpack_pack (a ∷ b ∷ c ∷ d ∷ []) l h =
    let g = bits_of_letters (a ∷ b ∷ c ∷ d ∷ []) in
    let p : g / 262144 ≡ a % 64 = omega arith in
    let q : g / 4096 % 64 ≡ b % 64 = omega arith in
    let r : g / 64 % 64 ≡ c % 64 = omega arith in
    let s : g % 64 ≡ d % 64 = omega arith in
    ap four_letters (bytes_bits g) ∙ cc (ap letter_of p, ap letter_of q, ap letter_of r, ap letter_of s, letter_back a h.0, letter_back b h.1.0, letter_back c h.1.1.0, letter_back d h.1.1.1.0)

pack_unpack : (p : List ℕ) → length p ≡ 3 → AllByRecursion Byte p → pack4 (unpack3 p) ≡ p
pack_unpack [] l h = absurd (omega arith)
pack_unpack (a ∷ []) l h = absurd (omega arith)
pack_unpack (a ∷ b ∷ []) l h = absurd (omega arith)
pack_unpack (a ∷ b ∷ c ∷ d ∷ p) l h = absurd (omega arith)
pack_unpack (a ∷ b ∷ c ∷ []) l h =
    let g = bits_of_bytes (a ∷ b ∷ c ∷ []) in
    let p : g / 65536 ≡ a = omega arith in
    let q : g / 256 % 256 ≡ b = omega arith in
    let r : g % 256 ≡ c = omega arith in
    ap three_bytes (letters_bits g (omega arith)) ∙ cc

letters_all : (t : List ℕ) → letters? t ≡ true → AllByRecursion Letter t
letters_all [] h = tt
letters_all (l ∷ t) h =
    let p = and_parts (letter? l) (letters? t) h in
    let q = and_parts (leb 32 l) (leb l 95) p.0 in
    ((leb-true 32 l q.0, leb-true l 95 q.1), letters_all t p.1)

all_letters : (t : List ℕ) → AllByRecursion Letter t → letters? t ≡ true
all_letters [] h = refl
all_letters (l ∷ t) h =
    and_from (letter? l) (letters? t) (and_from (leb 32 l) (leb l 95) (le-leb 32 l h.0.0) (le-leb l 95 h.0.1)) (all_letters t h.1)

six_letter : (v : ℕ) → v < 64 → Letter (letter_of v)
six_letter v h = (omega arith, omega arith)

byte_at : (p : List ℕ) (i : ℕ) → AllByRecursion Byte p → get_or p i 0 < 256
byte_at [] i h = omega arith
byte_at (b ∷ p) zero h = h.0
byte_at (b ∷ p) (suc i) h = byte_at p i h.1

four_letters_lem : (p : List ℕ) → AllByRecursion Byte p → AllByRecursion Letter (unpack3 p)
four_letters_lem p h =
    let a = byte_at p 0 h in
    let b = byte_at p 1 h in
    let c = byte_at p 2 h in
    let g = bits_of_bytes p in
    (six_letter (g / 262144) (omega arith), (six_letter (g / 4096 % 64) (omega arith), (six_letter (g / 64 % 64) (omega arith), (six_letter (g % 64) (omega arith), tt))))

unpacked_letters : (n : ℕ) (p : List ℕ) → AllByRecursion Byte p → AllByRecursion Letter (grouped n 3 unpack3 p)
unpacked_letters zero p h = tt
unpacked_letters (suc n) p h =
    All-append Letter (unpack3 (take 3 p)) (grouped n 3 unpack3 (drop 3 p)) (four_letters_lem (take 3 p) (All-take Byte 3 p h)) (unpacked_letters n (drop 3 p) (All-drop Byte 3 p h))

pub length_packed : (t : List ℕ) → length (packed t) ≡ length t / 4 * 3
length_packed t = length_grouped pack4 4 3 (λ _. refl) (length t / 4) t

pub length_unpacked : (p : List ℕ) → length (unpacked p) ≡ length p / 3 * 4
length_unpacked p = length_grouped unpack3 3 4 (λ _. refl) (length p / 3) p

pub reads_back : (t : List ℕ) → text? t ≡ true → ReadsBack t (packed t)
reads_back t h =
    let f = and_parts (eqb (length t % 4) 0) (letters? t) h in
    let m = eqb-true (length t % 4) 0 f.0 in
    let l = length_packed t in
    let n : length (packed t) / 3 ≡ length t / 4 = omega arith in
    record {
      formed = eq-eqb (length (packed t) % 3) 0 (omega arith);
      same = rw n (regrouped pack4 4 3 (λ _. refl) unpack3 Letter unpack_pack (length t / 4) t (omega arith) (letters_all t f.1));
    }

pub packs_again : (p : List ℕ) → AllByRecursion Byte p → packed? p ≡ true → PacksAgain p (unpacked p)
packs_again p b h =
    let m = eqb-true (length p % 3) 0 h in
    let l = length_unpacked p in
    let n : length (unpacked p) / 4 ≡ length p / 3 = omega arith in
    record {
      formed = and_from (eqb (length (unpacked p) % 4) 0) (letters? (unpacked p)) (eq-eqb (length (unpacked p) % 4) 0 (omega arith)) (all_letters (unpacked p) (unpacked_letters (length p / 3) p b));
      same = rw n (regrouped unpack3 3 4 (λ _. refl) pack4 Byte pack_unpack (length p / 3) p (omega arith) b);
    }
