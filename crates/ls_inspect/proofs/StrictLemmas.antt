-- Which data encoding gives, and how those of a codestream differ.
use Rattle.std.proofs.Common.{◌≡◌, ℕ, zero, suc, ◌+◌, ◌<◌, true, false, cond, Bool, List, [], ◌∷◌, ◌++◌, length, map, take, drop, get_or, Option, None, Some, inr, refl, sym, ap, subst, ◌∙◌, arith, take-append-drop}
use Rattle.std.specs.Prelude.{MatchOption, IfSome, IfNone}
use Rattle.std.specs.List.{range_with_len, AllByRecursion}
use Rattle.std.proofs.lemmas.List.{length-map}
use Rattle.std.proofs.lemmas.List.FromFn.{length-map-range_with_len}
use Rattle.ls_bits.specs.Bits.{AreBytes}
use Rattle.ls_bits.specs.Stuffing.{stuff}
use Rattle.ls_bits.proofs.StuffingLemmas.{groups-data}
use Rattle.ls_frame.specs.Picture.{Picture, components}
use Rattle.ls_frame.specs.Parameters.{Parameters, IsLegal}
use Rattle.ls_stream.specs.Planes.{plane_bits}
use Rattle.ls_stream.specs.Components.{plane_of}
use Rattle.ls_stream.specs.Segments.{AreTwoByteFields}
use Rattle.ls_stream.specs.Grammar.{Scan, presets, MayPrecedeScans, MayFollowScan, AreCoded, Spells}
use Rattle.ls_stream.specs.Layout.{written_component, written_header, needs_presets, written_scan, layout, codestream}
use Rattle.ls_stream.specs.View.Openings.{Opened, SaysSo}
use Rattle.ls_stream.proofs.FrameLaws.{LegalWithoutFault, one_frame_each}
use Rattle.ls_stream.proofs.HeaderLemmas.{header_short}
use Rattle.ls_inspect.specs.Scans.{HaveData}
use Rattle.ls_inspect.specs.Strict.{AreExact, SpellsStrictly, SpellsLoosely}
use Rattle.ls_inspect.proofs.BeginLemmas.{same_parameters}
use Rattle.ls_inspect.proofs.ScanLemmas.{data_in, AreEnded, stream_has, same_data}

-- ---- the data of a codestream

ended_of : (p : Parameters) (f : Picture) (component : ℕ) (scans : List Scan) → AreCoded p f component scans → AllByRecursion (λ (scan : Scan). AllByRecursion MayFollowScan scan.after) scans
    → AreEnded scans
ended_of p f component [] coded may = tt
ended_of p f component (scan ∷ scans) coded may = ((coded.0.is_data, may.0), ended_of p f (suc component) scans coded.1 may.1)

pub spelled_has : (front : List ℕ) (f : Picture) (spelled : Spells front f) → HaveData (drop 2 front) (data_in spelled.codestream.scans)
spelled_has front f spelled =
    let stream = spelled.codestream in
    let says = spelled.says in
    subst (λ bs. HaveData (drop 2 bs) (data_in stream.scans)) (sym spelled.spelled)
    (stream_has stream says.before says.between (header_short f.kind stream.header says.header.count) (says.header.count ∙ sym says.count)
    (ended_of spelled.parameters f 0 stream.scans says.coded says.after))

pub spelled_count : (front : List ℕ) (f : Picture) (spelled : Spells front f) → length (data_in spelled.codestream.scans) ≡ components f.kind
spelled_count front f spelled = length-map spelled.codestream.scans (λ (scan : Scan). scan.stuffed) ∙ spelled.says.count

-- ---- the data that encoding gives

-- of this many components from one on
abbrev pub written : Picture → Parameters → ℕ → ℕ → List (List ℕ)
written f p from count = data_in (map (written_scan f p) (range_with_len from count))

pub written_count : (f : Picture) (p : Parameters) (count : ℕ) → length (written f p 0 count) ≡ count
written_count f p count = length-map (map (written_scan f p) (range_with_len 0 count)) (λ (scan : Scan). scan.stuffed) ∙ length-map-range_with_len (written_scan f p) 0 count

fields : (p : Parameters) → IsLegal p → AreTwoByteFields p
fields p legal = record {
  maxval = omega (arith, legal.maxval);
  t1 = omega (arith, legal.t1, legal.maxval);
  t2 = omega (arith, legal.t2, legal.maxval);
  t3 = omega (arith, legal.t3, legal.maxval);
  reset = omega (arith, legal.reset, legal.maxval);
}

leads_by : (p : Parameters) → IsLegal p → (test : Bool) → AllByRecursion MayPrecedeScans (cond test (presets 0 p ∷ []) [])
leads_by p legal true = (fields p legal, tt)
leads_by p legal false = tt

written_ended : (f : Picture) (p : Parameters) (from count : ℕ) → AreEnded (map (written_scan f p) (range_with_len from count))
written_ended f p from zero = tt
written_ended f p from (suc count) =
    let bits = plane_bits p (plane_of f from) in
    (((groups-data (suc (length bits)) 8 bits (inr refl) (omega arith)).0, tt), written_ended f p (from + 1) count)

pub written_has : (f : Picture) (p : Parameters) → IsLegal p → HaveData (drop 2 (codestream f p)) (written f p 0 (components f.kind))
unfolding codestream
written_has f p legal =
    let header = length-map-range_with_len written_component 0 (components f.kind) in
    stream_has (layout f p) tt (leads_by p legal (needs_presets p)) (header_short f.kind (written_header f) header)
    (header ∙ sym (length-map-range_with_len (written_scan f p) 0 (components f.kind))) (written_ended f p 0 (components f.kind))

-- ---- both

abbrev exact : Parameters → Picture → ℕ → List ℕ
exact p f component = stuff (plane_bits p (plane_of f component))

next_is : (from : ℕ) → from + 1 ≡ suc from
next_is from = omega arith

-- data that are those that encoding gives
pub exact_of : (p : Parameters) (f : Picture) (from count : ℕ) (scans : List Scan) → data_in scans ≡ written f p from count → AreExact p f from scans
exact_of p f from count [] e = tt
exact_of p f from zero (scan ∷ scans) e = absurd (let size = ap length e in omega (arith, size))
exact_of p f from (suc count) (scan ∷ scans) e = (
  ap (λ (all : List (List ℕ)). get_or all 0 []) e,
  subst (λ n. AreExact p f n scans) (next_is from) (exact_of p f (from + 1) count scans (ap (λ (all : List (List ℕ)). drop 1 all) e)),
)

pub written_of : (p : Parameters) (f : Picture) (from count : ℕ) (scans : List Scan) → length scans ≡ count → AreExact p f from scans → data_in scans ≡ written f p from count
written_of p f from zero [] size are = refl
written_of p f from (suc count) [] size are = absurd (omega arith)
written_of p f from zero (scan ∷ scans) size are = absurd (omega arith)
written_of p f from (suc count) (scan ∷ scans) size are =
    let more = written_of p f (from + 1) count scans (omega arith) (subst (λ n. AreExact p f n scans) (sym (next_is from)) are.1) in
    ap (λ (stuffed : List ℕ). stuffed ∷ data_in scans) are.0 ∙ ap (λ (all : List (List ℕ)). exact p f from ∷ all) more

-- the first data that are others
record IsLoose (p : Parameters) (f : Picture) (from place : ℕ) (scans : List Scan) : Type 0 where
  before : List Scan
  loose : Scan
  after : List Scan
  whole : scans ≡ before ++ loose ∷ after
  count : length before ≡ place
  are : AreExact p f from before
  other : loose.stuffed ≡ exact p f (from + place) → ⊥

loose_of : (p : Parameters) (f : Picture) (place from count : ℕ) (scans : List Scan) → place < length scans → place < count → take place (data_in scans) ≡ take place (written f p from count)
    → (get_or (data_in scans) place [] ≡ get_or (written f p from count) place [] → ⊥) → IsLoose p f from place scans
loose_of p f place from count [] some more same differs = absurd (omega arith)
loose_of p f place from zero (scan ∷ scans) some more same differs = absurd (omega arith)
loose_of p f zero from (suc count) (scan ∷ scans) some more same differs = record {
  before = [];
  loose = scan;
  after = scans;
  whole = refl;
  count = refl;
  are = tt;
  other = λ e. differs (e ∙ ap (exact p f) (let n : from + 0 ≡ from = omega arith in n));
}
loose_of p f (suc place) from (suc count) (scan ∷ scans) some more same differs =
    let rest = loose_of p f place (from + 1) count scans (omega arith) (omega arith) (ap (λ (all : List (List ℕ)). drop 1 all) same) differs in
    record {
      before = scan ∷ rest.before;
      loose = rest.loose;
      after = rest.after;
      whole = ap (λ ss. scan ∷ ss) rest.whole;
      count = ap suc rest.count;
      are = (ap (λ (all : List (List ℕ)). get_or all 0 []) same, subst (λ n. AreExact p f n rest.before) (next_is from) rest.are);
      other = λ e. rest.other (e ∙ ap (exact p f) (let n : from + suc place ≡ from + 1 + place = omega arith in n));
    }

-- ---- what comparing both shows

-- the first place where two lists of data differ
abbrev pub Compared : Option ℕ → ℕ → List (List ℕ) → List (List ℕ) → Type 0
Compared None count one other = one ≡ other
Compared (Some place) count one other = (place < count) × (take place one ≡ take place other) × (get_or one place [] ≡ get_or other place [] → ⊥)

pub strictly : (front : List ℕ) (f : Picture) (p : Parameters) (spelled : Spells front f) → p ≡ spelled.parameters → data_in spelled.codestream.scans ≡ written f p 0 (components f.kind)
    → SpellsStrictly front f
strictly front f p spelled same e = record {
  spells = spelled;
  exact = exact_of spelled.parameters f 0 (components f.kind) spelled.codestream.scans (e ∙ ap (λ q. written f q 0 (components f.kind)) same);
}

pub loosely : (front : List ℕ) (f : Picture) (p : Parameters) (spelled : Spells front f) (place : ℕ) → p ≡ spelled.parameters
    → Compared (Some place) (components f.kind) (data_in spelled.codestream.scans) (written f p 0 (components f.kind)) → SpellsLoosely front f place
loosely front f p spelled place same compared =
    let q = spelled.parameters in
    let there : Compared (Some place) (components f.kind) (data_in spelled.codestream.scans) (written f q 0 (components f.kind)) =
    subst (λ r. Compared (Some place) (components f.kind) (data_in spelled.codestream.scans) (written f r 0 (components f.kind))) same compared in
    let loose = loose_of q f place 0 (components f.kind) spelled.codestream.scans (omega (arith, there.0, spelled.says.count)) there.0 there.1 there.2 in
    record {
      spells = spelled;
      before = loose.before;
      loose = loose.loose;
      after = loose.after;
      scans = loose.whole;
      place = loose.count;
      exact = loose.are;
      other = λ e. loose.other (e ∙ ap (exact q f) (let n : place ≡ 0 + place = omega arith in n));
    }

-- a codestream of which some data differ isn't strict, however it is read
pub never_strict : (front : List ℕ) (f g : Picture) (p : Parameters) (spelled : Spells front f) (place : ℕ)
    → Compared (Some place) (components f.kind) (data_in spelled.codestream.scans) (written f p 0 (components f.kind)) → f ≡ g → (strict : SpellsStrictly front g) → p ≡ strict.spells.parameters → ⊥
never_strict front f g p spelled place compared same strict is =
    let again = strict.spells in
    let kind : components f.kind ≡ components g.kind = ap (λ (h : Picture). components h.kind) same in
    let data_is : data_in spelled.codestream.scans ≡ data_in again.codestream.scans =
    same_data (drop 2 front) (data_in spelled.codestream.scans) (data_in again.codestream.scans) (spelled_count front f spelled ∙ kind ∙ sym (spelled_count front g again))
    (spelled_has front f spelled) (spelled_has front g again) in
    let all : data_in again.codestream.scans ≡ written g again.parameters 0 (components g.kind) =
    written_of again.parameters g 0 (components g.kind) again.codestream.scans again.says.count strict.exact in
    let wanted : written g again.parameters 0 (components g.kind) ≡ written f p 0 (components f.kind) =
    ap (λ q. written g q 0 (components g.kind)) (sym is) ∙ ap (λ (h : Picture). written h p 0 (components h.kind)) (sym same) in
    compared.2 (ap (λ (ds : List (List ℕ)). get_or ds place []) (data_is ∙ all ∙ wanted))

-- ---- for the code

-- what is known of a codestream that was decoded, and compared with the one that encoding gives
pub record IsInspected (bytes front rest : List ℕ) (f : Picture) (opened : Opened) (found : Option ℕ) : Type 0 where
  pub are : AreBytes bytes
  pub bytes_is : opened.bytes ≡ bytes
  pub says : SaysSo opened
  pub whole : bytes ≡ front ++ rest
  pub spelled : Spells front f
  pub compared : Compared found (components f.kind) (data_in spelled.codestream.scans) (written f opened.parameters 0 (components f.kind))

-- what comparing the bytes of both gives
abbrev pub Compares : Option ℕ → ℕ → List ℕ → List ℕ → Type 0
Compares found count given wanted =
    (one other : List (List ℕ)) → HaveData given one → HaveData wanted other → length one ≡ count → length other ≡ count
    → MatchOption found (one ≡ other) (λ place. (place < count) × (take place one ≡ take place other) × (get_or one place [] ≡ get_or other place [] → ⊥))

compared_by : (found : Option ℕ) (count : ℕ) (given wanted : List ℕ) (one other : List (List ℕ)) → Compares found count given wanted → HaveData given one → HaveData wanted other
    → length one ≡ count → length other ≡ count → Compared found count one other
compared_by None count given wanted one other compares have have' size size' = compares one other have have' size size'
compared_by (Some place) count given wanted one other compares have have' size size' = compares one other have have' size size'

pub inspected : (bytes : List ℕ) (used count : ℕ) (f : Picture) (opened : Opened) (p : Parameters) (encoded given wanted : List ℕ) (found : Option ℕ) → AreBytes bytes
    → opened.bytes ≡ bytes → SaysSo opened → Spells (take used bytes) f → p ≡ opened.parameters → IsLegal p → encoded ≡ codestream f p → given ≡ drop 2 (take used bytes)
    → wanted ≡ drop 2 encoded → count ≡ components f.kind → Compares found count given wanted → IsInspected bytes (take used bytes) (drop used bytes) f opened found
inspected bytes used count f opened p encoded given wanted found are same says spelled parameters legal coded given_is wanted_is number compares =
    let one = data_in spelled.codestream.scans in
    let other = written f p 0 (components f.kind) in
    let have : HaveData given one = subst (λ bs. HaveData bs one) (sym given_is) (spelled_has (take used bytes) f spelled) in
    let have' : HaveData wanted other = subst (λ bs. HaveData bs other) (sym (wanted_is ∙ ap (drop 2) coded)) (written_has f p legal) in
    let compared : Compared found count one other =
    compared_by found count given wanted one other compares have have' (spelled_count (take used bytes) f spelled ∙ sym number) (written_count f p (components f.kind) ∙ sym number) in
    record {
      are = are;
      bytes_is = same;
      says = says;
      whole = sym (take-append-drop used bytes);
      spelled = spelled;
      compared = subst (λ q. Compared found (components f.kind) one (written f q 0 (components f.kind))) parameters (subst (λ n. Compared found n one other) number compared);
    }

pub strict_by : (bytes front rest : List ℕ) (f : Picture) (opened : Opened) (found : Option ℕ) → IsInspected bytes front rest f opened found
    → IfNone found ((g : Picture) × SpellsStrictly front g)
strict_by bytes front rest f opened None is =
    (f, strictly front f opened.parameters is.spelled (same_parameters bytes front rest f opened is.are is.bytes_is is.says is.whole is.spelled) is.compared)
strict_by bytes front rest f opened (Some place) is = tt

pub loose_by : (bytes front rest : List ℕ) (f : Picture) (opened : Opened) (found : Option ℕ) → IsInspected bytes front rest f opened found
    → IfSome found (λ component. (g : Picture) × SpellsLoosely front g component)
loose_by bytes front rest f opened None is = tt
loose_by bytes front rest f opened (Some place) is =
    (f, loosely front f opened.parameters is.spelled place (same_parameters bytes front rest f opened is.are is.bytes_is is.says is.whole is.spelled) is.compared)

pub never_by : LegalWithoutFault → (bytes front rest : List ℕ) (f : Picture) (opened : Opened) (found : Option ℕ) → IsInspected bytes front rest f opened found
    → IfSome found (λ component. (g : Picture) → SpellsStrictly front g → ⊥)
never_by legal bytes front rest f opened None is = tt
never_by legal bytes front rest f opened (Some place) is = λ g strict.
    never_strict front f g opened.parameters is.spelled place is.compared (one_frame_each legal front f g is.spelled strict.spells) strict
    (same_parameters bytes front rest g opened is.are is.bytes_is is.says is.whole strict.spells)
