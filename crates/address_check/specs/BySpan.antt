-- The address faults of a list of entries, by spans of addresses.
use Rattle.std.specs.Prelude.{◌≡◌, ℕ, Bool, true, ◌&&◌, nat_le, nat_lt, List, Option, filter, filter_map, flat_map}
use Rattle.line_stamps.specs.Least.{least_of}
use Rattle.line_stamps.specs.Ordered.{In}
use Rattle.log_record.specs.declared.record.Entry.{Entry}
use Rattle.address_check.specs.declared.fault.AddressFault.{AddressFault}
use Rattle.address_check.specs.declared.span.AddrSpan.{AddrSpan}
use Rattle.address_check.specs.FaultOrder.{fault_cmp}
use Rattle.address_check.specs.AddressFaults.{address_fault}

-- whether a span has an address
abbrev pub has_address : AddrSpan → ℕ → Bool
has_address span addr = nat_le span.start addr && nat_lt addr span.end

-- one of the spans has an address
abbrev pub HaveAddress : ℕ → List AddrSpan → Type 0
HaveAddress addr spans = (span : AddrSpan) × In span spans × (has_address span addr ≡ true)

-- the entries at the addresses of a span, in their order
abbrev pub in_span : AddrSpan → List Entry → List Entry
in_span span es = filter (λ e. has_address span e.logged.addr) es

-- what the entries at the addresses of a span break among all the entries
abbrev pub faults_in : List Entry → AddrSpan → List AddressFault
faults_in es span = filter_map (address_fault es) (in_span span es)

-- the fault with the least key at the addresses of some spans
abbrev pub least_fault_in : List Entry → List AddrSpan → Option AddressFault
least_fault_in es spans = least_of fault_cmp (flat_map (faults_in es) spans)
