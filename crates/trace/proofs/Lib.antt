mod Back
