-- JAM21 permits a proper graph of sc accesses exactly if some single order of its events exists.
use Rattle.std.proofs.Common.{List}
use Rattle.graph.specs.declared.event.Event.{Event}
use Rattle.graph.specs.Proper.{Proper}
use Rattle.profiles.specs.Meaning.{Meaning}
use Rattle.sequential.specs.Single.{Jam21, AllSc, SingleOrder}
use Rattle.sequential.proofs.FromSingle.{single_permitted}
use Rattle.sequential.proofs.ToSingle.{permitted_sequential}

pub single_order : (m : Meaning) (es : List Event) → Jam21 m → Proper es → AllSc es → SingleOrder m es
single_order m es jam proper sc = record {
  has_single = λ p. permitted_sequential m jam es proper sc p.0 p.1.0 p.1.1;
  is_permitted = λ s. single_permitted m jam es proper s.0 s.1;
}
