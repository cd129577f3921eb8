use Rattle.semantics.proofs.OperatorValues.{right_sums, right_differences, right_products, right_equalities, right_orders}
use Rattle.semantics.proofs.laws.operators.operators_have_these_values.Goals as goal

pub returns : goal.returns
returns c = record {
  sum = right_sums;
  difference = right_differences;
  product = right_products;
  equality = right_equalities;
  order = right_orders;
}
