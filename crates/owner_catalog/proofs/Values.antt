-- What is known of a JSON value by its parts.
use Rattle.std.proofs.Common.{◌≡◌, ◌≤◌, ◌<◌, rules, tests, ℕ, Bool, true, false, not, ◌&&◌, ◌||◌, List, [], ◌∷◌, map, length, nat_le, if◌then◌else◌, unwrap_or, cond, option_map, Option, Some, None, Ok, bytes_eq, string_bytes, string_cmp, refl, sym, ap, ◌∙◌, true≢false, String, arith, Less}
use Rattle.std.proofs.lemmas.List.{length-map}
use Rattle.std.specs.declared.alloc.Global.{Global}
use Rattle.std.specs.List.{AllByRecursion, find, list_any}
use Rattle.std.specs.List.Sorted.{IsStrictlySortedBy}
use Rattle.std.specs.Map.{keys_of}
use Rattle.std.specs.Ordering.{is_eq}
use Rattle.std.proofs.lemmas.Bool.{not-false}
use Rattle.std.proofs.lemmas.Slice.Eq.{bytes_eq-Decides}
use Rattle.std.proofs.lemmas.Map.Keys.{sorted_head, sorted_tail}
use Rattle.std.proofs.lemmas.Map.Text.{is_eq-slice_cmp}
use Rattle.serde_json.specs.Data.{Data, null, boolean, number, string, array, object, Items, Members}
use Rattle.serde_json.specs.Find.{get, get_member, as_array, as_object}
use Rattle.serde_json.specs.View.{view, items_of, items_view, members_view}
use Rattle.serde_json.specs.Written.{has_float, items_have_float, members_have_float}
use Rattle.serde_json.specs.declared.value.Value.{Value}
use Rattle.serde_json.proofs.Views.{Entry, member_here, member_later}
use Rattle.owner_catalog.specs.Plain.{HasNoFloat}
use Rattle.owner_catalog.specs.Members.{member_name}
use Rattle.owner_catalog.specs.Fault.{the, bad, data_of, counted_in, first_missing, first_unknown, has_or_may_lack, is_known}
use Rattle.owner_catalog.specs.declared.fault.FaultKind.TheVariants.{Count}
use Rattle.owner_catalog.specs.declared.fault.Member.{Member}
use Rattle.owner_catalog.specs.declared.fault.Place.{Place}

data_of-items_of : (ds : List Data) → data_of (items_of ds) ≡ ds
data_of-items_of [] = refl
data_of-items_of (d ∷ ds) = ap (λ xs. d ∷ xs) (data_of-items_of ds)

-- the items of an array, if there are so many
pub counted_of : (least most : ℕ) (whole : Place) (d : Data) (vs : List Value) → Some (items_view vs) ≡ as_array d
    → counted_in least most whole d ≡ (if nat_le least (length vs) && nat_le (length vs) most then Ok (map view vs) else bad Count whole)
unfolding counted_in
counted_of least most whole d vs is = rw (sym is) (rw (data_of-items_of (map view vs)) (rw (length-map vs view) refl))

-- where the items hold no float, neither does the array
plain_items : (vs : List Value) → AllByRecursion HasNoFloat vs → items_have_float (items_view vs) ≡ false
plain_items [] h = refl
plain_items (v ∷ vs) h = rw h.0 (plain_items vs h.1)

plain_as_array : (d : Data) (ds : Items) → Some ds ≡ as_array d → items_have_float ds ≡ false → has_float d ≡ false
plain_as_array null ds is h = refl
plain_as_array (boolean b) ds is h = refl
plain_as_array (number n) ds is h = cc
plain_as_array (string s) ds is h = refl
plain_as_array (array es) ds is h = cc
plain_as_array (object ms) ds is h = cc

pub plain_array : (d : Data) (vs : List Value) → Some (items_view vs) ≡ as_array d → AllByRecursion HasNoFloat vs → has_float d ≡ false
plain_array d vs is h = plain_as_array d _ is (plain_items vs h)

-- nothing is missing, so each is there that an object may not lack
pub all_there : (expected : List Member) (d : Data) → None ≡ first_missing expected d → AllByRecursion (λ m. has_or_may_lack d m ≡ true) expected
all_there [] d none = tt
all_there (m ∷ ms) d none = by (has_or_may_lack d m) refl (all_there ms d) none
  where
    by : (b : Bool) → has_or_may_lack d m ≡ b → (None ≡ first_missing ms d → AllByRecursion (λ m. has_or_may_lack d m ≡ true) ms)
        → None ≡ cond (not b) (Some m) (first_missing ms d) → AllByRecursion (λ m. has_or_may_lack d m ≡ true) (m ∷ ms)
    by true e rest none = (e, rest none)
    by false e rest none = absurd cc

one_more : (b : Bool) (k : String Global) (names : Option (List ℕ)) (keys : Option (String Global)) → names ≡ option_map string_bytes keys
    → cond b (Some (string_bytes k)) names ≡ option_map string_bytes (cond b (Some k) keys)
one_more true k names keys same = refl
one_more false k names keys same = same

-- the names of an object's members are the keys of its map
pub unknown_of : (expected : List Member) (es : List Entry) → first_unknown expected (members_view es)
    ≡ option_map string_bytes (find (λ k. not (is_known expected (string_bytes k))) (keys_of es))
unknown_of expected [] = refl
unknown_of expected (e ∷ es) = one_more (not (is_known expected (string_bytes e.0))) e.0 _ _ (unknown_of expected es)

none_more : {X : Type 0} (b more : Bool) (x : X) (rest : Option X) → (None ≡ rest → more ≡ false) → None ≡ cond b (Some x) rest → (b || more) ≡ false
none_more true more x rest h none = absurd cc
none_more false more x rest h none = h none

none_passes : {X : Type 0} (p : X → Bool) (xs : List X) → None ≡ find p xs → list_any p xs ≡ false
none_passes p [] none = refl
none_passes p (x ∷ xs) none = none_more (p x) (list_any p xs) x (find p xs) (none_passes p xs) none

-- where a search finds none, no element passes its test
pub none_found : {X Y : Type 0} (f : X → Y) (r : Option X) (p : Y → Bool) (ys : List Y) → option_map f r ≡ find p ys → r ≡ None → list_any p ys ≡ false
none_found f None p ys is none = none_passes p ys is
none_found f (Some x) p ys is none = absurd cc

-- a name that no key is stands for nothing
absent : (name : List ℕ) (es : List Entry) → AllByRecursion (λ k. bytes_eq name (string_bytes k) ≡ false) (keys_of es)
    → get_member name (members_view es) ≡ None
absent name [] h = refl
absent name (e ∷ es) h = member_later name e es (λ same. true≢false (sym ((bytes_eq-Decides name (string_bytes e.0)).1 same) ∙ h.0)) ∙ absent name es h.1

-- the keys after the first are other texts
others : (k : String Global) (ks : List (String Global)) → AllByRecursion (λ y. string_cmp k y ≡ Less) ks → AllByRecursion
    (λ y. bytes_eq (string_bytes k) (string_bytes y) ≡ false) ks
others k [] h = tt
others k (y ∷ ks) h = (sym (is_eq-slice_cmp (string_bytes k) (string_bytes y)) ∙ ap is_eq h.0, others k ks h.1)

-- one of the members has this name
one_of : (expected : List Member) (name : List ℕ) (P : Member → Type 0) → is_known expected name ≡ true → AllByRecursion P expected
    → (m : Member) × (name ≡ member_name m) × P m
one_of [] name P known h = absurd (true≢false (sym known))
one_of (m ∷ ms) name P known h = by (bytes_eq name (member_name m)) refl (λ later. one_of ms name P later h.1)
  where
    by : (b : Bool) → bytes_eq name (member_name m) ≡ b → (is_known ms name ≡ true → (m : Member) × (name ≡ member_name m) × P m)
        → (m : Member) × (name ≡ member_name m) × P m
    by true e later = (m, (bytes_eq-Decides name (member_name m)).0 e, h.0)
    by false e later = later (sym (ap (λ b. b || is_known ms name) e) ∙ known)

abbrev PlainAt : List Entry → Member → Type 0
PlainAt es m = has_float (unwrap_or (get_member (member_name m) (members_view es)) null) ≡ false

-- what holds of an object's members holds without the first
plain_tail : (e : Entry) (es : List Entry) → AllByRecursion (λ y. bytes_eq (string_bytes e.0) (string_bytes y) ≡ false) (keys_of es)
    → (m : Member) → PlainAt (e ∷ es) m → PlainAt es m
plain_tail e es apart m h = by (bytes_eq (member_name m) (string_bytes e.0)) refl
  where
    by : (b : Bool) → bytes_eq (member_name m) (string_bytes e.0) ≡ b → PlainAt es m
    by true same = rw (absent (member_name m) es (rw (sym ((bytes_eq-Decides (member_name m) (string_bytes e.0)).0 same)) at apart)) refl
    by false other =
        rw (sym (member_later (member_name m) e es (λ same. true≢false (sym ((bytes_eq-Decides (member_name m) (string_bytes e.0)).1 same) ∙ other)))) h

each_tail : {P Q : Member → Type 0} → ((m : Member) → P m → Q m) → (ms : List Member) → AllByRecursion P ms → AllByRecursion Q ms
each_tail f [] h = tt
each_tail f (m ∷ ms) h = (f m h.0, each_tail f ms h.1)

or_false : (a b : Bool) → (a || b) ≡ false → (a ≡ false) × (b ≡ false)
or_false true b h = absurd (true≢false h)
or_false false b h = (refl, h)

plain_members : (expected : List Member) (es : List Entry) → IsStrictlySortedBy string_cmp (keys_of es)
    → list_any (λ k. not (is_known expected (string_bytes k))) (keys_of es) ≡ false → AllByRecursion (PlainAt es) expected
    → members_have_float (members_view es) ≡ false
plain_members expected [] ordered known h = refl
plain_members expected (e ∷ es) ordered known h =
    let k = or_false _ _ known in
    let m = one_of expected (string_bytes e.0) (PlainAt (e ∷ es)) (not-false _ k.0) h in
    let here : has_float (view e.1) ≡ false = rw (member_here (member_name m.0) e es (sym m.1)) at m.2 in
    let apart = others e.0 (keys_of es) (sorted_head string_cmp e.0 (keys_of es) ordered) in
    rw here (plain_members expected es (sorted_tail string_cmp e.0 (keys_of es) ordered) k.1 (each_tail (plain_tail e es apart) expected h))

plain_as_object : (d : Data) (ms : Members) → Some ms ≡ as_object d → members_have_float ms ≡ false → has_float d ≡ false
plain_as_object null ms is h = refl
plain_as_object (boolean b) ms is h = refl
plain_as_object (number n) ms is h = cc
plain_as_object (string s) ms is h = refl
plain_as_object (array es) ms is h = cc
plain_as_object (object ns) ms is h = cc

members_at : (d : Data) (ms : Members) → Some ms ≡ as_object d → (name : List ℕ) → get name d ≡ get_member name ms
members_at null ms is name = cc
members_at (boolean b) ms is name = cc
members_at (number n) ms is name = cc
members_at (string s) ms is name = cc
members_at (array es) ms is name = cc
members_at (object ns) ms is name = cc

-- An object whose members are known ones holds no float where these hold none.
pub plain_object : (expected : List Member) (d : Data) (es : List Entry) → Some (members_view es) ≡ as_object d → IsStrictlySortedBy string_cmp (keys_of es)
    → list_any (λ k. not (is_known expected (string_bytes k))) (keys_of es) ≡ false → AllByRecursion (λ m. has_float (the m d) ≡ false) expected
    → has_float d ≡ false
plain_object expected d es is ordered known h =
    plain_as_object d _ is (plain_members expected es ordered known (each_tail (λ m plain. rw (members_at d _ is (member_name m)) at plain) expected h))

-- a count within its limits, below them and above them
pub counted_ok : (least most : ℕ) (whole : Place) (d : Data) (vs : List Value) → Some (items_view vs) ≡ as_array d → least ≤ length vs → length vs ≤ most
    → counted_in least most whole d ≡ Ok (map view vs)
counted_ok least most whole d vs is low high =
    let a : nat_le least (length vs) ≡ true = search (rules, tests) in
    let b : nat_le (length vs) most ≡ true = search (rules, tests) in
    counted_of least most whole d vs is ∙ rw a (rw b refl)

pub counted_low : (least most : ℕ) (whole : Place) (d : Data) (vs : List Value) → Some (items_view vs) ≡ as_array d → length vs < least
    → counted_in least most whole d ≡ bad Count whole
counted_low least most whole d vs is low =
    let a : nat_le least (length vs) ≡ false = search (rules, tests) in
    counted_of least most whole d vs is ∙ rw a refl

pub counted_high : (least most : ℕ) (whole : Place) (d : Data) (vs : List Value) → Some (items_view vs) ≡ as_array d → least ≤ length vs → most < length vs
    → counted_in least most whole d ≡ bad Count whole
counted_high least most whole d vs is low high =
    let a : nat_le least (length vs) ≡ true = search (rules, tests) in
    let b : nat_le (length vs) most ≡ false = search (rules, tests) in
    counted_of least most whole d vs is ∙ rw a (rw b refl)
